-- The relations "covers" of the two scales, and how an attribute covers another in any scale.
use Rattle.std.specs.Prelude.{ℕ, Bool, false, cond, not, ◌&&◌, ◌||◌, Some, None, Option, ◌==◌, nat_le, nat_lt}
use Rattle.model.specs.Masks.{has}

-- a is at least b
abbrev pub ladder_covers : ℕ → ℕ → Bool
ladder_covers a b = nat_le b a

-- where b has the bit, a has it
abbrev pub keeps_bit : (a b bit : ℕ) → Bool
keeps_bit a b bit = not (has b bit) || has a bit

-- read as sets of the four bits 0 to 3, a contains b
abbrev pub labels_cover : ℕ → ℕ → Bool
labels_cover a b = keeps_bit a b 0 && (keeps_bit a b 1 && (keeps_bit a b 2 && keeps_bit a b 3))

-- in a scale with so many values and this relation, both are values and the first covers the second
abbrev pub covers_in : (count : ℕ) → (covering : ℕ → ℕ → Bool) → (a b : ℕ) → Bool
covers_in count covering a b = nat_lt a count && (nat_lt b count && covering a b)

-- neither is null, and the first covers the second
abbrev pub both_cover : (covers : ℕ → ℕ → Bool) → (a b : Option ℕ) → Bool
both_cover covers None b = false
both_cover covers (Some a) None = false
both_cover covers (Some a) (Some b) = covers a b

-- in the scale of attribute k, a covers b; there is none for an attribute over 3
abbrev pub four_scales : (s0 s1 s2 s3 : ℕ → ℕ → Bool) → (k a b : ℕ) → Bool
four_scales s0 s1 s2 s3 k a b =
    cond (k == 0) (s0 a b) (cond (k == 1) (s1 a b) (cond (k == 2) (s2 a b) (cond (k == 3) (s3 a b) false)))
