-- What is on the desk: the bare board, or a register that has it.
use Rattle.std.specs.Prelude.{ℕ, List, Some, None, Option}
use Rattle.register.specs.States.{State, Kept}
use Rattle.register.specs.Views.{state_of, kept_by}
use Rattle.setups.specs.Stores.{board_of}
use Rattle.setups.specs.declared.setup.Setup.{Setup}
use Rattle.kiosk.specs.declared.desk.Desk.{Desk}
use Rattle.kiosk.specs.declared.desk.Desk.TheVariants.{Bare, Made as OnDesk}

-- A register: what it keeps for good, its state, and what was chosen for it.
pub record Made : Type 0 where
  pub kept : Kept
  pub state : State
  pub setup : Setup

abbrev pub made_of : Option Desk → Option Made
made_of None = None
made_of (Some (Bare board)) = None
made_of (Some (OnDesk register setup)) = Some (record { kept = kept_by register; state = state_of register; setup = setup })

-- the masks of the board
abbrev pub board_at : Desk → List ℕ
board_at (Bare board) = board
board_at (OnDesk register setup) = board_of register.store
