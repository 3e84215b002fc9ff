-- What a refused certificate is answered.
use Rattle.std.specs.Prelude.{◌≡◌, ℕ, List, Some, None, Option}
use Rattle.model.specs.declared.fault.Fault.{Fault}
use Rattle.model.specs.declared.stamp.Stamp.{Stamp}
use Rattle.protection.specs.States.{Protection}
use Rattle.register.specs.States.{State, Kept}
use Rattle.checker.specs.Checks.{Witnessed}
use Rattle.checker.specs.declared.flaw.Flaw.{Flaw}
use Rattle.checker.specs.declared.flaw.Flaw.TheVariants.{NotContained, NotClosed, BanMet}
use Rattle.checker.specs.declared.flaw.Stray.TheVariants.{Unlisted, Cell}
use Rattle.kiosk.specs.declared.answer.Refusal.{Refusal}
use Rattle.kiosk.specs.declared.answer.Refusal.TheVariants.{Fault as Faulty, Flawed}

-- what stands under a name whose stamp is not listed
abbrev pub stray_entry : Protection → Flaw → Option Stamp
stray_entry p (NotContained (Unlisted n)) = p.entry n
stray_entry p (NotContained (Cell n o right)) = None
stray_entry p (NotClosed command escape) = None
stray_entry p (BanMet ban row column) = None

-- a fault with the flaw that shows it, where there is one
abbrev pub shown_by : Protection → Fault → Option Flaw → Refusal
shown_by p f None = Faulty f
shown_by p f (Some flaw) = Flawed f flaw (stray_entry p flaw)

-- The fault is answered with a witness.
pub record Shows (k : Kept) (s : State) (certificate bans : List ℕ) (fault : Fault) (refusal : Refusal) : Type 0 where
  pub witness : Option Flaw
  pub shows : Witnessed k s certificate bans witness
  pub is : refusal ≡ shown_by s.protection fault witness
