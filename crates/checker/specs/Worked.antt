-- Checks of the worked small kiosk that was just opened, from the bytes of their tapes.
use Rattle.std.specs.Prelude.{◌≡◌, ℕ, List, [], ◌∷◌, ◌↔◌}
use Rattle.model.specs.Answers.{Answer, accepted, refused}
use Rattle.model.specs.Kiosk.{kiosk_counts}
use Rattle.scheme.specs.declared.step.Step.TheVariants.{Set}
use Rattle.scheme.specs.Commands.{Command}
use Rattle.scheme_tape.specs.Reading.{SchemeRead}
use Rattle.certificates.specs.declared.ban.Ban.{Ban}
use Rattle.certificates.specs.BanTapes.{BansRead}
use Rattle.certificates.specs.Worked.{certificate_tape, right_1_tape, right_0_tape}
use Rattle.register.specs.States.{Kept}
use Rattle.register.specs.Worked.{kiosk_opened, KioskOnBoard}
use Rattle.checker.specs.Checks.{Checked}

-- A scheme of one command, which makes any card one of grade 1.
abbrev pub regrade_scheme : List ℕ
regrade_scheme = 0x10 ∷ 0x01 ∷ 0x01 ∷ 0x32 ∷ 0x00 ∷ 0x00 ∷ 0x01 ∷ 0x1F ∷ []

abbrev pub regrade : Command
regrade = record { params = 1; cards = 0x01; tests = []; steps = Set 0 0 1 ∷ [] }

-- what a register of that scheme keeps, with the kiosk's scales
pub record RegradeKiosk (k : Kept) : Type 0 where
  pub counts : k.counts ≡ kiosk_counts
  pub scheme : SchemeRead k.counts regrade_scheme (accepted k.commands)

-- A check of the kiosk's certificate tape and this ban tape answers this, and nothing else.
abbrev pub Answers : Kept → (bans : List ℕ) → Answer (Unit {0}) → Type 0
Answers k bans expected = (answer : Answer (Unit {0})) → Checked k kiosk_opened certificate_tape bans answer ↔ (answer ≡ expected)

-- What is checked of a kiosk that was just opened, ban by ban.
pub record WorkedChecks : Type 0 where
  -- no card of grade 1 holds right 1 on an entry of grade 1
  pub kept : (k : Kept) → KioskOnBoard k → Answers k right_1_tape (accepted tt)
  -- but it may hold right 0 on an entry of no grade
  pub met : (k : Kept) → KioskOnBoard k → Answers k right_0_tape (refused 6 19 0)
  -- where any card may become one of grade 1, one of grade 3 takes along a right that is not allowed then, whatever is banned
  pub escaped : (k : Kept) → RegradeKiosk k → (bans : List ℕ) (banned : List Ban) → BansRead k.counts bans (accepted banned) → Answers k bans (refused 6 18 0)
