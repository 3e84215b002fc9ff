-- Where a certificate keeps the mask of two numbers.
use Rattle.std.specs.Prelude.{ℕ, ◌+◌, ◌*◌, ◌&&◌, cond, nat_lt, List, slice_index_or}

-- the mask of two numbers lies at place 32 · u + v; from 32 on there are none
abbrev pub masks_of : List ℕ → (u v : ℕ) → ℕ
masks_of masks u v = cond (nat_lt u 32 && nat_lt v 32) (slice_index_or masks (32 * u + v) 0) 0
