-- What an order of any tape says on the certificate tape, and what it does to a certificate.
use Rattle.std.specs.Prelude.{ℕ, List, Some, None, Option, slice_index}
use Rattle.model.specs.declared.counts.Counts.{Counts}
use Rattle.model.specs.Answers.{lowest}
use Rattle.tapes.specs.declared.order.Order.{Order}
use Rattle.tapes.specs.declared.order.Order.TheVariants.{Begin, End, Holds, Is, IsNot, Covers, Enter, Delete, Set, Create, Destroy, Card, Thing, Right, Stamp, Allow, Ban}
use Rattle.tapes.specs.Taking.{rule_of, with_order}
use Rattle.tapes.specs.Values.{value_at}
use Rattle.certificates.specs.Certificates.{Certificate}
use Rattle.certificates.specs.Items.{Item, stamp, allow, with_item}
use Rattle.certificates.specs.Rules.{item_rules}

-- the item with these operands
abbrev pub stamp_read : List ℕ → Item
stamp_read x = stamp (slice_index x 0) (value_at x 1) (value_at x 2) (value_at x 3) (value_at x 4)

abbrev pub allow_read : List ℕ → Item
allow_read x = allow (slice_index x 0) (slice_index x 1) (slice_index x 2) (slice_index x 3)

-- the item that the order lists; an order of another tape lists none
abbrev pub said : Order → Option Item
said (Stamp x) = Some (stamp_read x.now)
said (Allow x) = Some (allow_read x.now)
said (Begin x) = None
said End = None
said (Holds x) = None
said (Is x) = None
said (IsNot x) = None
said (Covers x) = None
said (Enter x) = None
said (Delete x) = None
said (Set x) = None
said (Create x) = None
said (Destroy x) = None
said (Card x) = None
said (Thing x) = None
said (Right x) = None
said (Ban x) = None

-- the lowest rule that an item breaks after those that list this certificate, if it breaks any
abbrev pub rule : Counts → Certificate → Item → Option ℕ
rule c t i = lowest (item_rules c t i)

-- the lowest rule that the order breaks; one of another tape is out of place
abbrev pub broken_by : Counts → Certificate → Option Item → Option ℕ
broken_by c = rule_of (rule c)

-- the certificate with what it lists
abbrev pub with_listed : Certificate → Option Item → Certificate
with_listed = with_order with_item
