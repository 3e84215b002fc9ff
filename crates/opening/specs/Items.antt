-- What an opening tape says, item by item, and the protection state that it makes.
use Rattle.std.specs.Prelude.{ℕ, List, Some, Option, fold}
use Rattle.model.specs.declared.kind.Kind.{Kind}
use Rattle.model.specs.Stamps.{stamp_of}
use Rattle.protection.specs.Operations.{with_entry, enter}
use Rattle.protection.specs.States.{Protection, nothing}

-- an entry of this kind and name, with attributes 0 to 3; a right in the cell of a row and a column
pub data Item : Type 0 where
  entry : (kind : Kind) → (name : ℕ) → (a b c d : Option ℕ) → Item
  right : (r row column : ℕ) → Item

-- The state with one item more: a name has an entry, or a cell has a right.
abbrev pub with_item : Protection → Item → Protection
with_item p (entry kind n a b c d) = record { entry = with_entry p.entry n (Some (stamp_of kind a b c d)); cells = p.cells }
with_item p (right r s o) = enter r s o p

-- What items open: they are put one after the other into the state in which nothing stands.
abbrev pub opened : List Item → Protection
opened items = fold with_item nothing items
