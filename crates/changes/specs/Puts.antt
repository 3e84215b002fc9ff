-- What a change puts into which cells.
use Rattle.std.specs.Prelude.{ℕ, Bool, cond, Some, None, Option}
use Rattle.model.specs.Bounded.{listed}
use Rattle.stores.specs.Matrices.{Matrix}
use Rattle.protection.specs.Excerpts.{parameter_of}
use Rattle.protection.specs.Tables.{cells_of}
use Rattle.changes.specs.declared.change.Change.{Change}
use Rattle.changes.specs.Changes.{is_renewed}

-- by the parameters that row and column are named for
abbrev pub put_between : (renewed : ℕ → Bool) → (back : Matrix) → (row column : Option ℕ) → Option ℕ
put_between renewed back (Some i) (Some j) = Some (back i j)
put_between renewed back (Some i) None = cond (renewed i) (Some 0) None
put_between renewed back None (Some j) = cond (renewed j) (Some 0) None
put_between renewed back None None = None

-- the mask that is put into the cell [s, o], if one is
abbrev pub put_in : Change → (s o : ℕ) → Option ℕ
put_in c s o = put_between (is_renewed c.renewed) (cells_of c.cells) (parameter_of (listed c.names.items) s) (parameter_of (listed c.names.items) o)
