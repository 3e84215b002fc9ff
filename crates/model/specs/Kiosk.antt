-- The scales of the kiosk: the ladder for attributes 0 and 3, and labels for the two between.
use Rattle.std.specs.Prelude.{ℕ, Bool}
use Rattle.model.specs.declared.counts.Counts.{Counts}
use Rattle.model.specs.Counts.{counts_by}
use Rattle.model.specs.Scales.{ladder_covers, labels_cover, covers_in, four_scales}

-- eight values on the ladder, and sixteen labels
abbrev pub kiosk_counts : Counts
kiosk_counts = counts_by 8 16 16 8

abbrev pub kiosk_covers : (k a b : ℕ) → Bool
kiosk_covers = four_scales (covers_in 8 ladder_covers) (covers_in 16 labels_cover) (covers_in 16 labels_cover) (covers_in 8 ladder_covers)
