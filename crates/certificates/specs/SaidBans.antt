-- What an order of any tape says on the ban tape, and what it adds to the bans.
use Rattle.std.specs.Prelude.{ℕ, List, [], ◌∷◌, ◌++◌, Some, None, Option, slice_index}
use Rattle.model.specs.declared.counts.Counts.{Counts}
use Rattle.tapes.specs.declared.order.Order.{Order}
use Rattle.tapes.specs.declared.order.Order.TheVariants.{Begin, End, Holds, Is, IsNot, Covers, Enter, Delete, Set, Create, Destroy, Card, Thing, Right, Stamp, Allow, Ban as BanOrder}
use Rattle.tapes.specs.Taking.{rule_of, with_order}
use Rattle.tapes.specs.Values.{value_at}
use Rattle.certificates.specs.declared.ban.Ban.{Ban}
use Rattle.certificates.specs.BanTapes.{ban_broken_after}

-- the ban with these operands
abbrev pub ban_read : List ℕ → Ban
ban_read x =
    record {
      right = slice_index x 0;
      row = record { attribute = slice_index x 1; value = value_at x 2 };
      column = record { attribute = slice_index x 3; value = value_at x 4 };
    }

-- the ban that the order lists; an order of another tape lists none
abbrev pub said_ban : Order → Option Ban
said_ban (BanOrder x) = Some (ban_read x.now)
said_ban (Begin x) = None
said_ban End = None
said_ban (Holds x) = None
said_ban (Is x) = None
said_ban (IsNot x) = None
said_ban (Covers x) = None
said_ban (Enter x) = None
said_ban (Delete x) = None
said_ban (Set x) = None
said_ban (Create x) = None
said_ban (Destroy x) = None
said_ban (Card x) = None
said_ban (Thing x) = None
said_ban (Right x) = None
said_ban (Stamp x) = None
said_ban (Allow x) = None

-- one ban more
abbrev pub with_ban : List Ban → Ban → List Ban
with_ban bans b = bans ++ b ∷ []

-- the lowest rule that the order breaks; one of another tape is out of place
abbrev pub bans_broken_by : Counts → List Ban → Option Ban → Option ℕ
bans_broken_by c = rule_of (ban_broken_after c)

-- the bans with what it lists
abbrev pub with_ban_listed : List Ban → Option Ban → List Ban
with_ban_listed = with_order with_ban
