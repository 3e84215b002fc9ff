-- Cells as a list of records, each with its row, its column and its mask.
use Rattle.std.specs.Prelude.{◌≡◌, ℕ, ◌<◌, Bool, ◌&&◌, ◌==◌, List, length, fold, slice_index_or}
use Rattle.stores.specs.declared.record.Record.{Record}
use Rattle.stores.specs.Matrices.{Matrix, blank, written}

-- what stands past the end of a list
abbrev pub no_record : Record
no_record = record { row = 0; column = 0; mask = 0 }

abbrev pub at : List Record → ℕ → Record
at records i = slice_index_or records i no_record

-- the record is of the cell [s, o]
abbrev pub Of : Record → (s o : ℕ) → Type 0
Of r s o = (r.row ≡ s) × (r.column ≡ o)

-- the same as a test
abbrev pub is_of : (s o : ℕ) → Record → Bool
is_of s o r = (r.row == s) && (r.column == o)

-- the matrix f with what the record says
abbrev pub put : Matrix → Record → Matrix
put f r = written f r.row r.column r.mask

-- The matrix of a list of records: they are put one after the other into the empty matrix.
abbrev pub matrix_of : List Record → Matrix
matrix_of records = fold put blank records

-- Each of the first n records is of two names and has a mask that is not empty.
abbrev pub Full : List Record → (n : ℕ) → Type 0
Full records n = (i : ℕ) → i < n → ((at records i).row < 64) × ((at records i).column < 64) × (0 < (at records i).mask)

-- No two of the first n records are of the same cell.
abbrev pub Apart : List Record → (n : ℕ) → Type 0
Apart records n = (i j : ℕ) → i < j → j < n → Of (at records j) (at records i).row (at records i).column → ⊥

-- None of the first n records is of the cell [s, o].
abbrev pub Absent : List Record → (n s o : ℕ) → Type 0
Absent records n s o = (i : ℕ) → i < n → Of (at records i) s o → ⊥

-- The records are exactly the non-empty cells of a matrix, each once.
pub record Lists (records : List Record) (f : Matrix) : Type 0 where
  -- each is of a cell with two names, holds what the cell holds, and that is something
  pub each : (i : ℕ) → i < length records → ((at records i).row < 64) × ((at records i).column < 64) × (0 < (at records i).mask) × (f (at records i).row (at records i).column ≡ (at records i).mask)
  -- each cell that is not empty has one
  pub every : (s o : ℕ) → 0 < f s o → (i : ℕ) × (i < length records) × Of (at records i) s o
  -- no cell has two
  pub once : (i j : ℕ) → i < length records → j < length records → Of (at records i) (at records j).row (at records j).column → i ≡ j
