-- Texts one after the other.
use Rattle.std.specs.Prelude.{ℕ, zero, suc, List, [], ◌∷◌, ◌++◌}

-- the text of each number below n, in rising order
unfoldable pub texts_below : (ℕ → List ℕ) → ℕ → List ℕ
texts_below text zero = []
texts_below text (suc n) = texts_below text n ++ text n

-- the text of each element with its number, counted from n on
unfoldable pub texts_from : {X : Type 0} → (ℕ → X → List ℕ) → (n : ℕ) → List X → List ℕ
texts_from text n [] = []
texts_from text n (x ∷ xs) = text n x ++ texts_from text (suc n) xs
