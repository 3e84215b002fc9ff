-- A register is made with what its setup says.
use Rattle.std.proofs.Common.{◌≡◌, ℕ, Bool, List, Some, None, ap, refl, sym}
use Rattle.std.proofs.lemmas.Option.{none-some, same_Some}
use Rattle.stores.specs.Matrices.{blank}
use Rattle.stores.specs.RecordLists.{shown, list_limit}
use Rattle.stores.specs.declared.list.RecordList.{RecordList}
use Rattle.rulings.specs.declared.question.Question.{Question}
use Rattle.rulings.specs.Piles.{pile_says}
use Rattle.scheme.specs.Commands.{Command}
use Rattle.setups.specs.declared.setup.Setup.{Setup}
use Rattle.setups.specs.declared.setup.StoreChoice.{StoreChoice}
use Rattle.setups.specs.declared.setup.StoreChoice.TheVariants.{Board, List as Records}
use Rattle.setups.specs.declared.store.KioskStore.{KioskStore}
use Rattle.setups.specs.declared.store.KioskStore.TheVariants.{OnBoard, InList}
use Rattle.model.specs.Kiosk.{kiosk_counts, kiosk_covers}
use Rattle.setups.specs.Making.{MadeStore, kiosk_kept, limit_in, records_in}
use Rattle.setups.specs.Stores.{limit_of}

-- where no list is had for a choice, a board is chosen
pub board_made : (choice : StoreChoice) (board : List ℕ) → None ≡ records_in choice → MadeStore choice board (OnBoard board)
board_made Board board none = refl
board_made (Records n) board none = absurd (none-some n none)

-- where a list is had, it has the size that is chosen
pub list_made : (choice : StoreChoice) (list : RecordList) (board : List ℕ) → Some (list_limit list) ≡ records_in choice → shown list ≡ blank → MadeStore choice board (InList list board)
list_made Board list board some empty = absurd (none-some _ (sym some))
list_made (Records n) list board some empty = (empty, same_Some (list_limit list) n some, refl)

-- a store that is made for a choice has that choice's limit
limit_made : (choice : StoreChoice) (board : List ℕ) (s : KioskStore) → MadeStore choice board s → limit_of s ≡ limit_in choice
limit_made Board board s is_board = ap limit_of is_board
limit_made (Records n) board s made = made.1

-- what is kept is kept by the setup, where the store is made for it and the ruling answers as its pile
pub kept_made : (commands : List Command) (setup : Setup) (board : List ℕ) (s : KioskStore) (says : Question → Bool) → MadeStore setup.store board s → ((q : Question) → says q ≡ pile_says kiosk_covers setup.filters q) → record { counts = kiosk_counts; covers = kiosk_covers; commands = commands; limit = limit_of s; says = says } ≡ kiosk_kept commands setup
kept_made commands setup board s says made answers =
    λ i. record { counts = kiosk_counts; covers = kiosk_covers; commands = commands; limit = limit_made setup.store board s made i; says = λ q. answers q i }
