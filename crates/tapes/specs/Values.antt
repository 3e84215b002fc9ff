-- A value where null may stand, as a byte of a tape.
use Rattle.std.specs.Prelude.{ℕ, ◌+◌, ◌-◌, cond, List, Some, None, Option, ◌==◌, nat_lt, slice_index}

-- Null is 255. A number from there on, which is a value of no scale, moves up by one, so that each has a number of its own.
abbrev pub value_on_tape : Option ℕ → ℕ
value_on_tape None = 255
value_on_tape (Some v) = cond (nat_lt v 255) v (v + 1)

-- what such a byte stands for
abbrev pub value_read : ℕ → Option ℕ
value_read n = cond (nat_lt n 255) (Some n) (cond (n == 255) None (Some (n - 1)))

-- the value that operand k stands for
abbrev pub value_at : List ℕ → (k : ℕ) → Option ℕ
value_at x k = value_read (slice_index x k)
