-- How a text comes apart at a stroke, and what follows `check`: two texts of hex digits with a stroke between them.
use Rattle.std.specs.Prelude.{◌≡◌, ℕ, Bool, ◌⊎◌, List, ◌++◌, ◌==◌, codes, IsFalse, All}
use Rattle.script.specs.Hex.{Spells, Opens}

abbrev pub stroke : ℕ → Bool
stroke b = b == 47

-- `Sides text left right`: the first stroke of the text stands between these two.
pub record Sides (text left right : List ℕ) : Type 0 where
  pub clear : All (λ b. IsFalse (stroke b)) left
  pub whole : text ≡ left ++ (codes "/" ++ right)

-- No stroke stands in the text.
abbrev pub Unparted : List ℕ → Type 0
Unparted text = (left right : List ℕ) → ¬ Sides text left right

-- `SpellsBoth text xs ys`: the one side spells the bytes xs, and the other ys.
pub record SpellsBoth (text xs ys : List ℕ) : Type 0 where
  pub left : List ℕ
  pub right : List ℕ
  pub sides : Sides text left right
  pub first : Spells left xs
  pub second : Spells right ys

-- One of the sides begins with a pair of digits, so there is a byte to keep.
pub record OpensEither (text : List ℕ) : Type 0 where
  pub left : List ℕ
  pub right : List ℕ
  pub sides : Sides text left right
  pub opens : Opens left ⊎ Opens right
