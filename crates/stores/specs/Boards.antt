-- A board keeps the mask of the cell [s, o] at place 64 · s + o of its memory.
use Rattle.std.specs.Prelude.{◌≡◌, ℕ, ◌+◌, ◌*◌, Bool, List, length, replicate, ◌==◌, slice_index}
use Rattle.stores.specs.Matrices.{Matrix, on_names, count}

abbrev pub fits_board : List ℕ → Bool
fits_board masks = length masks == 4096

-- the cells of a board over 4,096 masks; there is no other
abbrev pub board_cells : List ℕ → Matrix
board_cells masks s o = slice_index masks (64 * s + o)

-- A board has room for every cell.
abbrev pub board_limit : ℕ
board_limit = 4096

-- the board as a store shows it
abbrev pub shown : List ℕ → Matrix
shown masks = on_names (board_cells masks)

-- Masks are a board's if there is one for each cell, and the number beside them says how many cells are not empty.
pub record IsBoard (masks : List ℕ) (filled : ℕ) : Type 0 where
  pub whole : length masks ≡ 4096
  pub counted : filled ≡ count (shown masks)

-- the same memory with every mask empty
abbrev pub emptied : List ℕ → List ℕ
emptied masks = replicate (length masks) 0
