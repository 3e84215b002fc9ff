-- How a table comes to contain a protection state, part by part.
use Rattle.std.specs.Prelude.{⊤, Result, MatchResult}
use Rattle.protection.specs.States.{Protection}
use Rattle.certificates.specs.Certificates.{Certificate}
use Rattle.checker.specs.Containing.{Contains}
use Rattle.maker.specs.declared.need.Overfull.{Overfull}
use Rattle.maker.specs.Comparing.{Above}
use Rattle.maker.specs.Growing.{NoneSmall}

-- the table says no more than whatever contains the state
abbrev pub Under : Protection → (table : Certificate) → Type 0
Under p t = (d : Certificate) → Contains d p → Above d t

-- The table contains the state, and says no more than whatever does.
pub record LeastContaining (p : Protection) (t : Certificate) : Type 0 where
  pub contains : Contains t p
  pub below : Under p t

-- whatever contains the state lists more than 32 stamps
abbrev pub Overfilled : Protection → Type 0
Overfilled p = NoneSmall (λ d. Contains d p)

-- The table says all that it said, and this is so of it; and it says too much only where it did so before.
pub record Onward (p : Protection) (So : Certificate → Type 0) (before after : Certificate) : Type 0 where
  pub says_all : Above after before
  pub under : Under p before → Under p after
  pub so : So after

-- A part of the state is taken up, so that this is so of the table; or a table that said no more than it must can't take it up, and
-- none that contains the state is small enough.
abbrev pub Takes : (p : Protection) (So : Certificate → Type 0) (before after : Certificate) → Result ⊤ Overfull → Type 0
Takes p So before after result = MatchResult result (λ _. Onward p So before after) (λ _. Under p before → Overfilled p)
