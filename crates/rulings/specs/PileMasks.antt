-- The four masks of the kiosk's pile of filters.
use Rattle.std.specs.Prelude.{ℕ, [], ◌∷◌, slice_index_or, slice_set}
use Rattle.rulings.specs.declared.pile.FilterMasks.{FilterMasks}

-- the rights for which attribute k is looked at; there are none for an attribute over 3
abbrev pub mask_of : FilterMasks → ℕ → ℕ
mask_of m k = slice_index_or m.each k 0

-- the masks of attributes 0 to 3
abbrev pub masks_by : (m0 m1 m2 m3 : ℕ) → FilterMasks
masks_by m0 m1 m2 m3 = record { each = m0 ∷ m1 ∷ m2 ∷ m3 ∷ [] }

abbrev pub no_masks : FilterMasks
no_masks = masks_by 0 0 0 0

-- attribute k has this mask now and the others have theirs; for an attribute over 3, all have theirs
abbrev pub with_mask : FilterMasks → (k mask : ℕ) → FilterMasks
with_mask m k mask = record { each = slice_set m.each k mask }
