-- Which numbers are values of an attribute, by how many values its scale has.
use Rattle.std.specs.Prelude.{ℕ, Bool, [], ◌∷◌, Some, None, Option, nat_lt, slice_get, unwrap_or}
use Rattle.std.specs.List.{list_all, range_with_len}
use Rattle.model.specs.declared.counts.Counts.{Counts}
use Rattle.model.specs.declared.stamp.Stamp.{Stamp}
use Rattle.model.specs.Stamps.{attribute_of}

-- the counts of the scales of attributes 0 to 3
abbrev pub counts_by : (s0 s1 s2 s3 : ℕ) → Counts
counts_by s0 s1 s2 s3 = record { each = s0 ∷ s1 ∷ s2 ∷ s3 ∷ [] }

-- how many values attribute k has; there is none over 3
abbrev pub count_of : Counts → ℕ → ℕ
count_of c k = unwrap_or (slice_get c.each k) 0

-- v is a value of attribute k
abbrev pub is_value : Counts → (k v : ℕ) → Bool
is_value c k v = nat_lt v (count_of c k)

-- attribute k exists, and v is null or a value of it
abbrev pub is_null_or_value : Counts → (k : ℕ) → (v : Option ℕ) → Bool
is_null_or_value c k None = nat_lt k 4
is_null_or_value c k (Some v) = is_value c k v

-- each attribute of a stamp is null or a value of its own scale
abbrev pub in_scales : Counts → Stamp → Bool
in_scales c s = list_all (λ k. is_null_or_value c k (attribute_of s k)) (range_with_len 0 4)
