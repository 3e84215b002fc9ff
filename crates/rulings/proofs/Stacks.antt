-- Four filters that stand one on the other ask what each attribute asks, and with empty masks they ask nothing.
use Rattle.std.proofs.Common.{◌≡◌, ℕ, Bool, true, false, ◌&&◌, refl, ap, ◌∙◌}
use mathlib.Core.Bool.{and_comm, and-true}
use Rattle.model.specs.Scales.{four_scales}
use Rattle.model.proofs.Rights.{holds_nothing}
use Rattle.rulings.specs.declared.filter.AttributeFilter.{AttributeFilter}
use Rattle.rulings.specs.declared.matrix.MatrixRuling.{MatrixRuling}
use Rattle.rulings.specs.declared.pile.FilterMasks.{FilterMasks}
use Rattle.rulings.specs.declared.question.Question.{Question}
use Rattle.rulings.specs.Filters.{filter_by, filter_says, passes}
use Rattle.rulings.specs.PileMasks.{mask_of, no_masks}
use Rattle.rulings.specs.Piles.{pile_says}
use Rattle.rulings.specs.Questions.{held}

pub nothing_asked : (covers : ℕ → ℕ → ℕ → Bool) (q : Question) → pile_says covers no_masks q ≡ held q
nothing_asked covers q = rw (holds_nothing q.right) (and-true (held q))

regrouped : (h a b c d : Bool) → (h && d && c && b && a) ≡ (h && (a && (b && (c && d))))
regrouped false a b c d = refl
regrouped true a b c d =
    and_comm (d && c && b) a ∙ ap (λ x. a && x) (and_comm (d && c) b ∙ ap (λ x. b && x) (and_comm d c))

-- what four filters say, the first over the second and so on, the last over the matrix
abbrev pub stack_says : {S0 S1 S2 S3 : Type 0} → (s0 s1 s2 s3 : ℕ → ℕ → Bool) → AttributeFilter S0 (AttributeFilter S1 (AttributeFilter S2 (AttributeFilter S3 MatrixRuling))) → Question → Bool
stack_says s0 s1 s2 s3 = filter_says s0 (filter_says s1 (filter_says s2 (filter_says s3 (λ _ q. held q))))

pub each_asked : {S0 S1 S2 S3 : Type 0} (s0 s1 s2 s3 : ℕ → ℕ → Bool) (m : FilterMasks) (matrix : MatrixRuling) (f : AttributeFilter S0 (AttributeFilter S1 (AttributeFilter S2 (AttributeFilter S3 MatrixRuling)))) → f ≡ filter_by 0 (mask_of m 0) (filter_by 1 (mask_of m 1) (filter_by 2 (mask_of m 2) (filter_by 3 (mask_of m 3) matrix))) → (q : Question) → stack_says s0 s1 s2 s3 f q ≡ pile_says (four_scales s0 s1 s2 s3) m q
each_asked s0 s1 s2 s3 m matrix f made q =
    ap (λ x. stack_says s0 s1 s2 s3 x q) made
    ∙ regrouped (held q) (passes s0 0 (mask_of m 0) q) (passes s1 1 (mask_of m 1) q) (passes s2 2 (mask_of m 2) q) (passes s3 3 (mask_of m 3) q)
