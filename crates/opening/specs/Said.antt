-- What an order of any tape says on the opening tape, and what it does to a state.
use Rattle.std.specs.Prelude.{ℕ, List, Some, None, Option, slice_index}
use Rattle.model.specs.declared.counts.Counts.{Counts}
use Rattle.model.specs.declared.kind.Kind.{Kind}
use Rattle.model.specs.declared.kind.Kind.TheVariants.{Subject, Object}
use Rattle.protection.specs.States.{Protection}
use Rattle.tapes.specs.declared.order.Order.{Order}
use Rattle.tapes.specs.declared.order.Order.TheVariants.{Begin, End, Holds, Is, IsNot, Covers, Enter, Delete, Set, Create, Destroy, Card, Thing, Right, Stamp, Allow, Ban}
use Rattle.tapes.specs.Taking.{rule_of, with_order}
use Rattle.tapes.specs.Values.{value_at}
use Rattle.opening.specs.Items.{Item, entry, right, with_item}
use Rattle.opening.specs.Rules.{rule}

-- the item with these operands
abbrev pub entry_read : Kind → List ℕ → Item
entry_read kind x = entry kind (slice_index x 0) (value_at x 1) (value_at x 2) (value_at x 3) (value_at x 4)

abbrev pub right_read : List ℕ → Item
right_read x = right (slice_index x 0) (slice_index x 1) (slice_index x 2)

-- the item that the order lists; an order of another tape lists none
abbrev pub said : Order → Option Item
said (Card x) = Some (entry_read Subject x.now)
said (Thing x) = Some (entry_read Object x.now)
said (Right x) = Some (right_read x.now)
said (Begin x) = None
said End = None
said (Holds x) = None
said (Is x) = None
said (IsNot x) = None
said (Covers x) = None
said (Enter x) = None
said (Delete x) = None
said (Set x) = None
said (Create x) = None
said (Destroy x) = None
said (Stamp x) = None
said (Allow x) = None
said (Ban x) = None

-- the lowest rule that it breaks; an order of another tape is out of place
abbrev pub broken_by : Counts → (limit : ℕ) → Protection → Option Item → Option ℕ
broken_by c limit = rule_of (rule c limit)

-- the state with what it lists
abbrev pub with_listed : Protection → Option Item → Protection
with_listed = with_order with_item
