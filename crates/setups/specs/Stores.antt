-- What the kiosk's store holds, on the board or in the list.
use Rattle.std.specs.Prelude.{ℕ, List}
use Rattle.stores.specs.Boards as Boards
use Rattle.stores.specs.Matrices.{Matrix}
use Rattle.stores.specs.RecordLists as RecordLists
use Rattle.setups.specs.declared.store.KioskStore.{KioskStore}
use Rattle.setups.specs.declared.store.KioskStore.TheVariants.{OnBoard, InList}

abbrev pub shown : KioskStore → Matrix
shown (OnBoard board) = Boards.shown board
shown (InList list board) = RecordLists.shown list

abbrev pub limit_of : KioskStore → ℕ
limit_of (OnBoard board) = Boards.board_limit
limit_of (InList list board) = RecordLists.list_limit list

-- the board, on which the cells lie or which is put by
abbrev pub board_of : KioskStore → List ℕ
board_of (OnBoard board) = board
board_of (InList list board) = board
