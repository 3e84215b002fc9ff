-- A casting binds the parameters of a command to stamps of a certificate, in the place of the entries that a request would name.
use Rattle.std.specs.Prelude.{◌≡◌, ℕ, Bool, true, not, ◌&&◌, ◌||◌, Some, None, Option, nat_lt}
use Rattle.std.specs.List.{list_any, list_all}
use Rattle.model.specs.declared.stamp.Stamp.{Stamp}
use Rattle.model.specs.Kinds.{subject_kind}
use Rattle.model.specs.Masks.{has}
use Rattle.scheme.specs.Commands.{Command}
use Rattle.scheme.specs.Steps.{creates_in_step}
use Rattle.protection.specs.Commands.{passes}
use Rattle.protection.specs.States.{Protection}
use Rattle.certificates.specs.Certificates.{Certificate, lists, between}

-- the stamp of each parameter, and none for what is created, as no entry stands there yet
abbrev pub Casting : Type 0
Casting = ℕ → Option Stamp

-- parameter i is cast: it is one of the command's, and the command does not create it
abbrev pub is_cast : Command → (i : ℕ) → Bool
is_cast m i = nat_lt i m.params && not (list_any (creates_in_step i) m.steps)

-- what a parameter may be given: a listed stamp, a card's where a card is declared; or nothing, where it is not cast
abbrev pub suits : Certificate → Command → (i : ℕ) → Option Stamp → Bool
suits c m i None = not (is_cast m i)
suits c m i (Some s) = is_cast m i && (lists c s && (not (has m.cards i) || subject_kind s.kind))

-- A casting of a command gives every parameter what it may be given. Two of them may get the same stamp.
abbrev pub Casts : Certificate → Command → Casting → Type 0
Casts c m σ = (i : ℕ) → suits c m i (σ i) ≡ true

-- what the parameters see then: their stamps, and between them what the certificate allows
abbrev pub cast_state : Certificate → Casting → Protection
cast_state c σ = record { entry = σ; cells = λ i j. between c (σ i) (σ j) }

-- every test holds of what the parameters see
abbrev pub Passes : (covers : (k a b : ℕ) → Bool) → Command → Protection → Type 0
Passes covers m before = list_all (passes covers before) m.tests ≡ true
