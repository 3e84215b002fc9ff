-- The language of the ban tape: each of its orders says one ban, which can be read back from it.
use Rattle.std.proofs.Common.{◌≡◌, ℕ, true, cond, eqb, List, is_some, Some, None, Option, refl}
use Rattle.model.specs.declared.counts.Counts.{Counts}
use Rattle.tapes.specs.declared.order.Order.{Order}
use Rattle.tapes.specs.declared.order.Order.TheVariants as order
use Rattle.tapes.specs.declared.tape.Tape.TheVariants.{Bans as BanTape}
use Rattle.tapes.specs.Orders.{Case, case_of}
use Rattle.tapes.specs.Readers.{row_on}
use Rattle.tapes.proofs.ItemTapes.{Items}
use Rattle.tapes.proofs.Making.{Making}
use Rattle.tapes.proofs.Values.{from_byte, to_byte, same_case}
use Rattle.certificates.specs.declared.ban.Ban.{Ban}
use Rattle.certificates.specs.BanTapes.{ban_case, ban_broken_after}
use Rattle.certificates.specs.SaidBans.{ban_read, said_ban, with_ban}

-- what an order's byte and operands say
abbrev read_back : Case → Option Ban
read_back x = cond (eqb x.number 0x60) (Some (ban_read x.values)) None

abbrev ban_with : Ban → (v w : Option ℕ) → Ban
ban_with b v w = record { right = b.right; row = record { attribute = b.row.attribute; value = v }; column = record { attribute = b.column.attribute; value = w } }

pub back : (b : Ban) → read_back (ban_case b) ≡ Some b
back b = let row = from_byte b.row.value in let column = from_byte b.column.value in λ i. Some (ban_with b (row i) (column i))

pub says : (o : Order) → is_some (row_on (case_of o).number BanTape) ≡ true → (b : Ban) × ((said_ban o ≡ Some b) × (ban_case b ≡ case_of o))
says (order.Ban x) h = (_, (refl, same_case 0x60 _ _ _ _ _ _ _ _ _ refl (to_byte _) refl (to_byte _)))
says (order.Begin x) h = cc
says order.End h = cc
says (order.Holds x) h = cc
says (order.Is x) h = cc
says (order.IsNot x) h = cc
says (order.Covers x) h = cc
says (order.Enter x) h = cc
says (order.Delete x) h = cc
says (order.Set x) h = cc
says (order.Create x) h = cc
says (order.Destroy x) h = cc
says (order.Card x) h = cc
says (order.Thing x) h = cc
says (order.Right x) h = cc
says (order.Stamp x) h = cc
says (order.Allow x) h = cc

abbrev ban_items : Items Ban
ban_items = record { tape = BanTape; said = said_ban; written = ban_case; listed = λ b. refl; read_back = read_back; back = back; says = says }

-- what the bans so far make are these bans
abbrev pub ban_making : Counts → Making Ban (List Ban)
ban_making c = record { items = ban_items; made = λ bans. bans; rule = ban_broken_after c; more = with_ban; made_more = λ before b. refl }
