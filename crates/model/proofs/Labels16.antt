-- On the sixteen labels, `a & b == b` says that a contains b, bit by bit.
use Rattle.std.proofs.Common.{◌≡◌, ℕ, ◌<◌, true, eqb, refl}
use Rattle.std.proofs.lemmas.Bool.{agree_below, agree_below_at}
use lib.Bits.{bit_and}
use Rattle.model.specs.Masks.{has}
use Rattle.model.specs.Scales.{labels_cover}

pub labels_by_bits : (a b : ℕ) → a < 16 → b < 16 → eqb (bit_and a b) b ≡ labels_cover a b
unfolding has
labels_by_bits a b ha hb =
    agree_below_at (λ y. eqb (bit_and a y) y) (labels_cover a) 16 b
    (agree_below_at (λ x. agree_below (λ y. eqb (bit_and x y) y) (labels_cover x) 16) (λ _. true) 16 a refl ha)
    hb
