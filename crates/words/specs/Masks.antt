-- A mask as four hex digits, in upper case.
use Rattle.std.specs.Prelude.{ℕ, ◌+◌, ◌/◌, ◌%◌, cond, List, [], ◌∷◌, nat_lt}

-- the last hex digit of a number: `0` to `9`, `A` to `F`
abbrev pub hex_digit : ℕ → ℕ
hex_digit n = cond (nat_lt (n % 16) 10) (48 + n % 16) (55 + n % 16)

abbrev pub mask_words : ℕ → List ℕ
mask_words m = hex_digit (m / 4096) ∷ hex_digit (m / 256) ∷ hex_digit (m / 16) ∷ hex_digit m ∷ []
