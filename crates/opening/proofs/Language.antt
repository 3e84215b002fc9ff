-- The language of the opening tape: its orders can be told apart, and the table of orders finds each of them.
use Rattle.std.proofs.Common.{◌≡◌, ℕ, true, cond, eqb, List, length, is_some, Some, None, Option, refl}
use Rattle.model.specs.declared.counts.Counts.{Counts}
use Rattle.model.specs.declared.kind.Kind.{Kind}
use Rattle.model.specs.declared.kind.Kind.TheVariants.{Subject, Object}
use Rattle.tapes.specs.declared.order.Order.{Order}
use Rattle.tapes.specs.declared.order.Order.TheVariants as order
use Rattle.tapes.specs.declared.tape.Tape.TheVariants.{Opening}
use Rattle.tapes.specs.Orders.{Case, case_of}
use Rattle.tapes.specs.Readers.{row_on}
use Rattle.tapes.specs.Table.{row}
use Rattle.tapes.proofs.ItemTapes.{Items, items_language}
use Rattle.tapes.proofs.Languages.{Language}
use Rattle.tapes.proofs.Values.{from_byte, to_byte, same_case}
use Rattle.opening.specs.Encoding.{item_case}
use Rattle.opening.specs.Items.{Item, entry, right}
use Rattle.opening.specs.Rules.{broken_after}
use Rattle.opening.specs.Said.{entry_read, right_read, said}

-- what an order's byte and operands say
abbrev read_back : Case → Option Item
read_back x =
    cond (eqb x.number 0x40) (Some (entry_read Subject x.values))
    (cond (eqb x.number 0x41) (Some (entry_read Object x.values))
    (cond (eqb x.number 0x42) (Some (right_read x.values)) None))

same_entry : (kind : Kind) (n : ℕ) (a b c d a' b' c' d' : Option ℕ) → a ≡ a' → b ≡ b' → c ≡ c' → d ≡ d' → Some (entry kind n a b c d) ≡ Some (entry kind n a' b' c' d')
same_entry kind n a b c d a' b' c' d' p q r s = λ i. Some (entry kind n (p i) (q i) (r i) (s i))

pub back : (i : Item) → read_back (item_case i) ≡ Some i
back (entry Subject n a b c d) = same_entry Subject n _ _ _ _ a b c d (from_byte a) (from_byte b) (from_byte c) (from_byte d)
back (entry Object n a b c d) = same_entry Object n _ _ _ _ a b c d (from_byte a) (from_byte b) (from_byte c) (from_byte d)
back (right r s o) = refl

pub listed : (i : Item) → row_on (item_case i).number Opening ≡ Some (row (item_case i).number (length (item_case i).values) Opening)
listed (entry Subject n a b c d) = refl
listed (entry Object n a b c d) = refl
listed (right r s o) = refl

pub says : (o : Order) → is_some (row_on (case_of o).number Opening) ≡ true → (i : Item) × ((said o ≡ Some i) × (item_case i ≡ case_of o))
says (order.Card x) h = (_, (refl, same_case 0x40 _ _ _ _ _ _ _ _ _ (to_byte _) (to_byte _) (to_byte _) (to_byte _)))
says (order.Thing x) h = (_, (refl, same_case 0x41 _ _ _ _ _ _ _ _ _ (to_byte _) (to_byte _) (to_byte _) (to_byte _)))
says (order.Right x) h = (_, (refl, refl))
says (order.Begin x) h = cc
says order.End h = cc
says (order.Holds x) h = cc
says (order.Is x) h = cc
says (order.IsNot x) h = cc
says (order.Covers x) h = cc
says (order.Enter x) h = cc
says (order.Delete x) h = cc
says (order.Set x) h = cc
says (order.Create x) h = cc
says (order.Destroy x) h = cc
says (order.Stamp x) h = cc
says (order.Allow x) h = cc
says (order.Ban x) h = cc

abbrev pub opening_items : Items Item
opening_items = record { tape = Opening; said = said; written = item_case; listed = listed; read_back = read_back; back = back; says = says }

abbrev pub opening_language : Counts → (limit : ℕ) → Language Item (List Item)
opening_language c limit = items_language opening_items (broken_after c limit)
