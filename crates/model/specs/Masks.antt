-- A mask is a set of rights: right r is in it when bit r is set.
use Rattle.std.specs.Prelude.{◌≡◌, ℕ, ◌+◌, ◌-◌, ◌/◌, ◌%◌, ◌^◌, Bool, true, false, cond, not, ◌&&◌, ◌==◌, nat_lt}

unfoldable pub has : (mask right : ℕ) → Bool
has mask right = mask / 2 ^ right % 2 == 1

-- the mask with this right too; there is no right over 15, so none over 15 enters
unfoldable pub with_right : (mask right : ℕ) → ℕ
with_right mask right = cond (nat_lt right 16 && not (has mask right)) (mask + 2 ^ right) mask

-- the mask without this right
unfoldable pub without_right : (mask right : ℕ) → ℕ
without_right mask right = cond (has mask right) (mask - 2 ^ right) mask

-- every right of the first is one of the second
abbrev pub Within : (m n : ℕ) → Type 0
Within m n = (right : ℕ) → has m right ≡ true → has n right ≡ true

-- the right is in the first, and not in the second
abbrev pub Outside : (m n right : ℕ) → Type 0
Outside m n right = (has m right ≡ true) × (has n right ≡ false)
