-- The primitive operations, each with its whole frame: all that a clause does not name stays as it was.
use Rattle.std.specs.Prelude.{ℕ, cond, ◌||◌, Some, None, Option, ◌==◌, slice_set}
use Rattle.std.specs.Option.{option_map}
use Rattle.model.specs.declared.kind.Kind.{Kind}
use Rattle.model.specs.declared.stamp.Stamp.{Stamp}
use Rattle.model.specs.Masks.{with_right, without_right}
use Rattle.model.specs.Stamps.{stamp_of}
use Rattle.stores.specs.Matrices.{Matrix, written}
use Rattle.protection.specs.States.{Protection}

-- The entry of one name is another, or none, and those of all others are as they were.
abbrev pub with_entry : (ℕ → Option Stamp) → (name : ℕ) → Option Stamp → ℕ → Option Stamp
with_entry entries n entry m = cond (m == n) entry (entries m)

-- Row and column of one name are empty, its cell on itself included, and all other cells are as they were.
abbrev pub without : Matrix → (name : ℕ) → Matrix
without f n s o = cond (s == n || o == n) 0 (f s o)

-- a stamp of this kind, all null
abbrev pub null_stamp : Kind → Stamp
null_stamp kind = stamp_of kind None None None None

-- the stamp with v as its attribute k
abbrev pub with_attribute : (k v : ℕ) → Stamp → Stamp
with_attribute k v stamp = record { kind = stamp.kind; attributes = slice_set stamp.attributes k (Some v) }

-- Right r is in the cell [s, o].
abbrev pub enter : (r s o : ℕ) → Protection → Protection
enter r s o p = record { entry = p.entry; cells = written p.cells s o (with_right (p.cells s o) r) }

-- Right r is not in the cell [s, o].
abbrev pub delete : (r s o : ℕ) → Protection → Protection
delete r s o p = record { entry = p.entry; cells = written p.cells s o (without_right (p.cells s o) r) }

-- Attribute k of the entry n is v.
abbrev pub set : (n k v : ℕ) → Protection → Protection
set n k v p = record { entry = with_entry p.entry n (option_map (with_attribute k v) (p.entry n)); cells = p.cells }

-- An entry of this kind stands under n, all null, with an empty row and column.
abbrev pub create : (kind : Kind) → (n : ℕ) → Protection → Protection
create kind n p = record { entry = with_entry p.entry n (Some (null_stamp kind)); cells = without p.cells n }

-- No entry stands under n, and its row and column are empty.
abbrev pub destroy : (n : ℕ) → Protection → Protection
destroy n p = record { entry = with_entry p.entry n None; cells = without p.cells n }
