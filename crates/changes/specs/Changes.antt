-- What a request makes of an access matrix.
use Rattle.std.specs.Prelude.{ℕ, Bool, false, List, slice_index_or}
use Rattle.model.specs.Bounded.{listed}
use Rattle.stores.specs.Matrices.{Matrix}
use Rattle.protection.specs.Excerpts.{cells_back}
use Rattle.protection.specs.Tables.{cells_of}
use Rattle.changes.specs.declared.change.Change.{Change}

-- parameter i is created or destroyed; there is none past the last
abbrev pub is_renewed : List Bool → (i : ℕ) → Bool
is_renewed renewed i = slice_index_or renewed i false

-- The cells between the names are as the change says, and the rows and columns of what is created or destroyed are otherwise
-- empty. All other cells are as they were.
abbrev pub changed : Change → Matrix → Matrix
changed c = cells_back (listed c.names.items) (is_renewed c.renewed) (cells_of c.cells)
