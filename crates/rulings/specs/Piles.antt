-- What the kiosk's pile of four filters answers to a question.
use Rattle.std.specs.Prelude.{ℕ, Bool, ◌&&◌}
use Rattle.rulings.specs.declared.pile.FilterMasks.{FilterMasks}
use Rattle.rulings.specs.declared.question.Question.{Question}
use Rattle.rulings.specs.Filters.{passes}
use Rattle.rulings.specs.PileMasks.{mask_of}
use Rattle.rulings.specs.Questions.{held}

-- the test holds of each attribute
abbrev pub of_each_attribute : (test : ℕ → Bool) → Bool
of_each_attribute test = test 0 && (test 1 && (test 2 && test 3))

-- The cell holds the right, and for each attribute the right is not in its mask or the row's value covers the column's.
abbrev pub pile_says : (covers : ℕ → ℕ → ℕ → Bool) → FilterMasks → Question → Bool
pile_says covers masks q = held q && of_each_attribute (λ k. passes (covers k) k (mask_of masks k) q)
