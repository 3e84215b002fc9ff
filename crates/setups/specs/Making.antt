-- The register that a setup and an accepted scheme make, for the kiosk's scales.
use Rattle.std.specs.Prelude.{◌≡◌, ℕ, List, Some, None, Option, ⊤}
use Rattle.model.specs.Kiosk.{kiosk_counts, kiosk_covers}
use Rattle.register.specs.States.{Kept}
use Rattle.rulings.specs.Piles.{pile_says}
use Rattle.scheme.specs.Commands.{Command}
use Rattle.stores.specs.Boards.{board_limit}
use Rattle.stores.specs.Matrices.{blank}
use Rattle.setups.specs.Stores.{shown, limit_of, board_of}
use Rattle.setups.specs.declared.setup.Setup.{Setup}
use Rattle.setups.specs.declared.setup.StoreChoice.{StoreChoice}
use Rattle.setups.specs.declared.setup.StoreChoice.TheVariants.{Board, List as Records}
use Rattle.setups.specs.declared.store.KioskStore.{KioskStore}
use Rattle.setups.specs.declared.store.KioskStore.TheVariants.{OnBoard}

-- how many cells may be non-empty, by where they lie
abbrev pub limit_in : StoreChoice → ℕ
limit_in Board = board_limit
limit_in (Records n) = n

-- What is so of a store that is made for a choice: it is the board as it is, or an empty list of so many records, with the board
-- put by.
abbrev pub MadeStore : StoreChoice → (board : List ℕ) → KioskStore → Type 0
MadeStore Board board s = s ≡ OnBoard board
MadeStore (Records n) board s = (shown s ≡ blank) × (limit_of s ≡ n) × (board_of s ≡ board)

-- how many records a choice takes beside the board, if it takes any
abbrev pub records_in : StoreChoice → Option ℕ
records_in Board = None
records_in (Records n) = Some n

-- Records are wanted for a list.
abbrev pub WantsRecords : StoreChoice → Type 0
WantsRecords Board = ⊥
WantsRecords (Records n) = ⊤

-- what the kiosk's register keeps for good
abbrev pub kiosk_kept : List Command → Setup → Kept
kiosk_kept commands setup = record {
  counts = kiosk_counts;
  covers = kiosk_covers;
  commands = commands;
  limit = limit_in setup.store;
  says = pile_says kiosk_covers setup.filters;
}
