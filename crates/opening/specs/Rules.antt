-- The rules on an item, after those that come before it on the tape.
use Rattle.std.specs.Prelude.{ℕ, Bool, not, ◌&&◌, ◌||◌, List, [], ◌∷◌, Option, nat_lt}
use Rattle.model.specs.declared.counts.Counts.{Counts}
use Rattle.model.specs.Answers.{lowest}
use Rattle.model.specs.Counts.{in_scales}
use Rattle.model.specs.Stamps.{stamp_of}
use Rattle.protection.specs.States.{Protection, stands, is_subject}
use Rattle.stores.specs.Matrices.{is_name, some, count}
use Rattle.tapes.specs.ItemTapes.{well_formed_items}
use Rattle.opening.specs.Items.{Item, entry, right, opened}

-- names are below 64 and rights below 16, and each attribute is null or a value of its own scale
abbrev pub in_range : Counts → Item → Bool
in_range c (entry kind n a b c' d) = is_name n && in_scales c (stamp_of kind a b c' d)
in_range c (right r s o) = nat_lt r 16 && (is_name s && is_name o)

-- A name is given once. A right is in the row of a card, and in the column of some entry.
abbrev pub suits : Protection → Item → Bool
suits p (entry kind n a b c d) = not (stands p n)
suits p (right r s o) = is_subject (p.entry s) && stands p o

-- a right needs a cell that is not empty already, or room for one more
abbrev pub has_cell : (limit : ℕ) → Protection → Item → Bool
has_cell limit p (entry kind n a b c d) = Bool.true
has_cell limit p (right r s o) = some (p.cells s o) || nat_lt (count p.cells) limit

-- The rules by their numbers, each with whether it is broken: 5 out of range, 7 a name or row that does not suit what the items
-- before it made, 8 over the store's limit.
abbrev pub item_rules : Counts → (limit : ℕ) → Protection → Item → List (ℕ × Bool)
item_rules c limit p i = (5, not (in_range c i)) ∷ (7, not (suits p i)) ∷ (8, not (has_cell limit p i)) ∷ []

-- the lowest rule that an item breaks in a state, if it breaks any
abbrev pub rule : Counts → (limit : ℕ) → Protection → Item → Option ℕ
rule c limit p i = lowest (item_rules c limit p i)

-- the same after these items
abbrev pub broken_after : Counts → (limit : ℕ) → (before : List Item) → Item → Option ℕ
broken_after c limit before = rule c limit (opened before)

-- No item breaks a rule after those before it.
abbrev pub well_formed : Counts → (limit : ℕ) → List Item → Bool
well_formed c limit = well_formed_items (broken_after c limit)
