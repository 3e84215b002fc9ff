-- What a certificate lists and allows after some items, said of all of them at once and not of one after the other.
use Rattle.std.specs.Prelude.{◌≡◌, ℕ, true, List, [], ◌∷◌, flat_map, ◌↔◌}
use Rattle.std.specs.List.{Any}
use Rattle.model.specs.declared.stamp.Stamp.{Stamp}
use Rattle.model.specs.Masks.{has}
use Rattle.certificates.specs.Certificates.{Certificate}
use Rattle.certificates.specs.Items.{Item, stamp, allow, stamp_by, mask_of}

-- the stamp that an item lists, if it lists one
abbrev pub stamps_in : Item → List Stamp
stamps_in (stamp kind a b x d) = stamp_by kind a b x d ∷ []
stamps_in (allow u v high low) = []

-- the item adds this right to what the stamp with number m is allowed on that with number n
abbrev pub Adds : (m n right : ℕ) → Item → Type 0
Adds m n right (stamp kind a b x d) = ⊥
Adds m n right (allow u v high low) = (u ≡ m) × (v ≡ n) × (has (mask_of high low) right ≡ true)

-- The listed stamps are those of the items, in their order, and a right is allowed exactly if some item adds it.
pub record ListedExactly (items : List Item) (c : Certificate) : Type 0 where
  pub stamps : c.stamps ≡ flat_map stamps_in items
  pub rights : (m n right : ℕ) → (has (c.masks m n) right ≡ true) ↔ Any (Adds m n right) items
