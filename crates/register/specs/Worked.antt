-- The worked small kiosk on a board: what its requests answer and leave, from the bytes of its two tapes.
use Rattle.std.specs.Prelude.{◌≡◌, ℕ, true, List, [], ◌∷◌, Some, None, ◌↔◌}
use Rattle.model.specs.declared.kind.Kind.TheVariants.{Subject}
use Rattle.model.specs.Answers.{Answer, accepted, refused}
use Rattle.model.specs.Masks.{has}
use Rattle.model.specs.Kiosk.{kiosk_counts, kiosk_covers}
use Rattle.model.specs.Stamps.{stamp_of}
use Rattle.scheme.specs.declared.step.Step.TheVariants.{Enter, Set, Create, Destroy}
use Rattle.scheme.specs.declared.test.Test.TheVariants.{Holds, Is, Covers}
use Rattle.scheme.specs.Commands.{Command}
use Rattle.scheme_tape.specs.Reading.{SchemeRead}
use Rattle.opening.specs.Worked.{kiosk_tape, kiosk_state}
use Rattle.register.specs.Openings.{Opens}
use Rattle.register.specs.Requests.{Requested}
use Rattle.register.specs.States.{State, Kept}

-- The scheme tape, a command a line. The opening tape is `kiosk_tape`, of the opening's own `Worked`.
abbrev pub kiosk_scheme : List ℕ
kiosk_scheme =
    0x10 ∷ 0x03 ∷ 0x03 ∷ 0x20 ∷ 0x00 ∷ 0x00 ∷ 0x02 ∷ 0x23 ∷ 0x00 ∷ 0x00 ∷ 0x01 ∷ 0x30 ∷ 0x00 ∷ 0x01 ∷ 0x02 ∷ 0x1F
    ∷ 0x10 ∷ 0x02 ∷ 0x03 ∷ 0x21 ∷ 0x00 ∷ 0x00 ∷ 0x03 ∷ 0x33 ∷ 0x01 ∷ 0x32 ∷ 0x01 ∷ 0x00 ∷ 0x01 ∷ 0x1F
    ∷ 0x10 ∷ 0x01 ∷ 0x00 ∷ 0x34 ∷ 0x00 ∷ 0x1F
    ∷ []

-- What it says. A card hands right 0 on to a card of no higher grade.
abbrev pub hand_on : Command
hand_on = record { params = 3; cards = 0x03; tests = Holds 0 0 2 ∷ Covers 0 0 1 ∷ []; steps = Enter 0 1 2 ∷ [] }

-- A card of grade 3 makes a card of grade 1.
abbrev pub make_card : Command
make_card = record { params = 2; cards = 0x03; tests = Is 0 0 (Some 3) ∷ []; steps = Create 1 ∷ Set 1 0 1 ∷ [] }

-- An entry is taken away.
abbrev pub take_away : Command
take_away = record { params = 1; cards = 0x00; tests = []; steps = Destroy 0 ∷ [] }

abbrev pub kiosk_commands : List Command
kiosk_commands = hand_on ∷ make_card ∷ take_away ∷ []

-- what the opening tape leaves
abbrev pub kiosk_opened : State
kiosk_opened = record { protection = kiosk_state; count = 0 }

-- What a register of the kiosk keeps: those scales, a scheme that was read from that tape, and a board. Its ruling is free.
pub record KioskOnBoard (k : Kept) : Type 0 where
  pub counts : k.counts ≡ kiosk_counts
  pub covers : k.covers ≡ kiosk_covers
  pub scheme : SchemeRead k.counts kiosk_scheme (accepted k.commands)
  pub board : k.limit ≡ 4096

-- In the state before, the request is accepted, as the first since the opening, and this holds of the state after.
abbrev pub Accepts : Kept → State → (number : ℕ) → (names : List ℕ) → (Then : State → Type 0) → Type 0
Accepts k before number names Then =
    (answer : Answer ℕ) (after : State) → Requested k before number names answer after → (answer ≡ accepted 1) × (after.count ≡ 1) × Then after

-- In the state before, the request is refused by that rule at that place, and nothing changes.
abbrev pub Refuses : Kept → State → (number : ℕ) → (names : List ℕ) → (rule place : ℕ) → Type 0
Refuses k before number names rule place =
    (answer : Answer ℕ) (after : State) → Requested k before number names answer after → (answer ≡ refused 5 rule place) × (after ≡ before)

-- What is asked of a kiosk that was just opened, request by request.
pub record KioskRows (k : Kept) (s : State) : Type 0 where
  -- card 0 hands right 0 on thing 2 on to card 1
  pub handed_on : Accepts k s 0 (0 ∷ 1 ∷ 2 ∷ []) (λ after. has (after.protection.cells 1 2) 0 ≡ true)
  -- card 1 does not hand it on to card 0: it has no such right, and once it has, its grade does not cover that of card 0
  pub no_right : Refuses k s 0 (1 ∷ 0 ∷ 2 ∷ []) 15 0
  pub low_grade : Accepts k s 0 (0 ∷ 1 ∷ 2 ∷ []) (λ after. Refuses k after 0 (1 ∷ 0 ∷ 2 ∷ []) 15 1)
  -- card 0 makes card 63, of grade 1
  pub made : Accepts k s 1 (0 ∷ 63 ∷ []) (λ after. after.protection.entry 63 ≡ Some (stamp_of Subject (Some 1) None None None))
  -- but none under 64, which is no name, nor under its own name or one that stands
  pub no_name : Refuses k s 1 (0 ∷ 64 ∷ []) 11 1
  pub same_name : Refuses k s 1 (0 ∷ 0 ∷ []) 12 1
  pub stands : Refuses k s 1 (0 ∷ 1 ∷ []) 13 1
  -- thing 2 is taken away, and the right of card 0 on it goes too
  pub taken_away : Accepts k s 2 (2 ∷ []) (λ after. (after.protection.entry 2 ≡ None) × (after.protection.cells 0 2 ≡ 0))

-- The scheme tape has one reading, which is those commands. A register of the kiosk accepts the opening tape, and what stands then
-- is what the tape lists; and what is asked of it then is answered as said.
pub record WorkedKiosk : Type 0 where
  pub scheme : (answer : Answer (List Command)) → SchemeRead kiosk_counts kiosk_scheme answer ↔ (answer ≡ accepted kiosk_commands)
  pub opens : (k : Kept) → KioskOnBoard k → (answer : Answer (Unit {0})) (s : State) → Opens k kiosk_tape answer s → (answer ≡ accepted tt) × (s ≡ kiosk_opened)
  pub rows : (k : Kept) → KioskOnBoard k → (s : State) → Opens k kiosk_tape (accepted tt) s → KioskRows k s
