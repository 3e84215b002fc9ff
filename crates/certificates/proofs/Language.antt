-- The language of the certificate tape: each of its orders says one item, which can be read back from it.
use Rattle.std.proofs.Common.{◌≡◌, ℕ, true, cond, eqb, List, [], ◌∷◌, ◌++◌, length, is_some, Some, None, Option, refl}
use Rattle.std.proofs.lemmas.List.Sums.{fold-append}
use Rattle.model.specs.declared.counts.Counts.{Counts}
use Rattle.tapes.specs.declared.order.Order.{Order}
use Rattle.tapes.specs.declared.order.Order.TheVariants as order
use Rattle.tapes.specs.declared.tape.Tape.TheVariants.{Certificate as CertificateTape}
use Rattle.tapes.specs.Orders.{Case, case_of}
use Rattle.tapes.specs.Readers.{row_on}
use Rattle.tapes.specs.Table.{row}
use Rattle.tapes.proofs.ItemTapes.{Items}
use Rattle.tapes.proofs.Making.{Making}
use Rattle.tapes.proofs.Values.{from_byte, to_byte, same_case}
use Rattle.certificates.specs.Certificates.{Certificate, no_stamps}
use Rattle.certificates.specs.Encoding.{item_case}
use Rattle.certificates.specs.Items.{Item, stamp, allow, with_item, listed_by}
use Rattle.certificates.specs.Said.{stamp_read, allow_read, said, rule}

-- what an order's byte and operands say
abbrev read_back : Case → Option Item
read_back x = cond (eqb x.number 0x50) (Some (stamp_read x.values)) (cond (eqb x.number 0x51) (Some (allow_read x.values)) None)

same_stamp : (kind : ℕ) (a b c d a' b' c' d' : Option ℕ) → a ≡ a' → b ≡ b' → c ≡ c' → d ≡ d' → Some (stamp kind a b c d) ≡ Some (stamp kind a' b' c' d')
same_stamp kind a b c d a' b' c' d' p q r s = λ i. Some (stamp kind (p i) (q i) (r i) (s i))

pub back : (i : Item) → read_back (item_case i) ≡ Some i
back (stamp kind a b c d) = same_stamp kind _ _ _ _ a b c d (from_byte a) (from_byte b) (from_byte c) (from_byte d)
back (allow u v high low) = refl

pub listed : (i : Item) → row_on (item_case i).number CertificateTape ≡ Some (row (item_case i).number (length (item_case i).values) CertificateTape)
listed (stamp kind a b c d) = refl
listed (allow u v high low) = refl

pub says : (o : Order) → is_some (row_on (case_of o).number CertificateTape) ≡ true → (i : Item) × ((said o ≡ Some i) × (item_case i ≡ case_of o))
says (order.Stamp x) h = (_, (refl, same_case 0x50 _ _ _ _ _ _ _ _ _ (to_byte _) (to_byte _) (to_byte _) (to_byte _)))
says (order.Allow x) h = (_, (refl, refl))
says (order.Begin x) h = cc
says order.End h = cc
says (order.Holds x) h = cc
says (order.Is x) h = cc
says (order.IsNot x) h = cc
says (order.Covers x) h = cc
says (order.Enter x) h = cc
says (order.Delete x) h = cc
says (order.Set x) h = cc
says (order.Create x) h = cc
says (order.Destroy x) h = cc
says (order.Card x) h = cc
says (order.Thing x) h = cc
says (order.Right x) h = cc
says (order.Ban x) h = cc

abbrev certificate_items : Items Item
certificate_items = record { tape = CertificateTape; said = said; written = item_case; listed = listed; read_back = read_back; back = back; says = says }

-- one item more at the end
pub listed_push : (before : List Item) (i : Item) → listed_by (before ++ i ∷ []) ≡ with_item (listed_by before) i
listed_push before i = fold-append with_item no_stamps before (i ∷ [])

abbrev pub certificate_making : Counts → Making Item Certificate
certificate_making c = record { items = certificate_items; made = listed_by; rule = rule c; more = with_item; made_more = listed_push }
