-- What the kiosk's host is answered for its four tapes, as one number.
use Rattle.std.specs.Prelude.{◌≡◌, ℕ, ◌+◌, ◌*◌, ◌^◌, ◌<◌, List, ⊤}
use Rattle.model.specs.Answers.{Answer, accepted, refused}
use Rattle.model.specs.Kiosk.{kiosk_counts, kiosk_covers}
use Rattle.rulings.specs.Questions.{held}
use Rattle.scheme.specs.Commands.{Command}
use Rattle.scheme_tape.specs.Reading.{SchemeRead}
use Rattle.stores.specs.Boards.{board_limit}
use Rattle.register.specs.Openings.{Opens}
use Rattle.register.specs.States.{State, Kept}
use Rattle.checker.specs.Checks.{Checked}

-- a register of the kiosk with these commands, on a board, by the access matrix alone
abbrev pub on_board : List Command → Kept
on_board commands = record {
  counts = kiosk_counts;
  covers = kiosk_covers;
  commands = commands;
  limit = board_limit;
  says = held;
}

-- A register with these commands is opened, and the certificate and the bans are checked on it where the opening is accepted. The
-- first fault is the answer as it is.
pub data OpenedThenChecked (commands : List Command) (opening certificate bans : List ℕ) (answer : Answer (Unit {0})) : Type 0 where
  bad_opening : (s : State) (layer number place : ℕ) → Opens (on_board commands) opening (refused layer number place) s → answer ≡ refused layer number place → OpenedThenChecked commands opening certificate bans answer
  checked : (s : State) → Opens (on_board commands) opening (accepted tt) s → Checked (on_board commands) s certificate bans answer → OpenedThenChecked commands opening certificate bans answer

-- The tapes are taken in the order of their layers: the scheme first, and the others where it is accepted.
pub data Handed (scheme opening certificate bans : List ℕ) (answer : Answer (Unit {0})) : Type 0 where
  bad_scheme : (layer number place : ℕ) → SchemeRead kiosk_counts scheme (refused layer number place) → answer ≡ refused layer number place → Handed scheme opening certificate bans answer
  on_register : (commands : List Command) → SchemeRead kiosk_counts scheme (accepted commands) → OpenedThenChecked commands opening certificate bans answer → Handed scheme opening certificate bans answer

-- 0 for accepted tapes; else the layer of the fault times 2^24, its number times 2^16, and its place
abbrev pub code_of : Answer (Unit {0}) → ℕ
code_of (accepted x) = 0
code_of (refused layer number place) = layer * 2 ^ 24 + number * 2 ^ 16 + place

-- There is a layer, layer and number are below 256, and the place is below 65,536.
abbrev pub Readable : Answer (Unit {0}) → Type 0
Readable (accepted x) = ⊤
Readable (refused layer number place) = (0 < layer) × (layer < 256) × (number < 256) × (place < 65536)

-- the number is the code of what the tapes are answered
pub record Coded (scheme opening certificate bans : List ℕ) (code : ℕ) : Type 0 where
  pub answer : Answer (Unit {0})
  pub handed : Handed scheme opening certificate bans answer
  pub coded : code ≡ code_of answer
  pub readable : Readable answer

-- No four tapes have two codes.
abbrev pub OneCode : Type 0
OneCode = (scheme opening certificate bans : List ℕ) (a b : ℕ) → Coded scheme opening certificate bans a → Coded scheme opening certificate bans b → a ≡ b

-- So the answer can be read back: no two have one code.
abbrev pub ReadBack : Type 0
ReadBack = (a b : Answer (Unit {0})) → Readable a → Readable b → code_of a ≡ code_of b → a ≡ b
