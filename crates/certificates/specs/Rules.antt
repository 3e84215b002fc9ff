-- The rules on an item of a certificate, after those that come before it on the tape.
use Rattle.std.specs.Prelude.{ℕ, Bool, not, ◌&&◌, ◌||◌, List, [], ◌∷◌, length, Option, nat_le, nat_lt, ◌==◌, slice_get}
use Rattle.model.specs.declared.counts.Counts.{Counts}
use Rattle.model.specs.Answers.{lowest}
use Rattle.model.specs.Counts.{in_scales}
use Rattle.model.specs.Stamps.{is_subject}
use Rattle.certificates.specs.Certificates.{Certificate, lists}
use Rattle.certificates.specs.Items.{Item, stamp, allow, stamp_by, listed_by}

-- 1 is a card's, 2 a thing's
abbrev pub is_kind : (number : ℕ) → Bool
is_kind number = (number == 1) || (number == 2)

-- The rules by their numbers, each with whether it is broken: 4 a 33rd stamp, 5 out of range, 7 a stamp that is listed already, or
-- a number of none that is, or a row that is no card's.
abbrev pub item_rules : Counts → Certificate → Item → List (ℕ × Bool)
item_rules c t (stamp kind a b x d) =
    (4, nat_le 32 (length t.stamps))
    ∷ (5, not (is_kind kind && in_scales c (stamp_by kind a b x d)))
    ∷ (7, lists t (stamp_by kind a b x d))
    ∷ []
item_rules c t (allow u v high low) =
    (5, not (nat_lt u 32 && nat_lt v 32))
    ∷ (7, not (is_subject (slice_get t.stamps u) && nat_lt v (length t.stamps)))
    ∷ []

-- the lowest rule that an item breaks after these, if it breaks any
abbrev pub broken_after : Counts → (before : List Item) → Item → Option ℕ
broken_after c before i = lowest (item_rules c (listed_by before) i)
