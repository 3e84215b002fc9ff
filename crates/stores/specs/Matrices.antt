-- The access matrix as a store keeps it: a mask for each pair of names, and how many of its cells are not empty.
use Rattle.std.specs.Prelude.{ℕ, zero, suc, ◌+◌, Bool, cond, not, ◌&&◌, ◌||◌, ◌==◌, List, [], ◌∷◌, nat_lt}

-- the mask of row s and column o
abbrev pub Matrix : Type 0
Matrix = ℕ → ℕ → ℕ

-- names are the numbers below 64
abbrev pub is_name : ℕ → Bool
is_name n = nat_lt n 64

-- The same matrix on names; a number that is no name has empty cells only.
abbrev pub on_names : Matrix → Matrix
on_names f s o = cond (is_name s && is_name o) (f s o) 0

-- every cell is empty
abbrev pub blank : Matrix
blank s o = 0

-- the matrix f with mask m in the cell [s, o], and all else as it was
abbrev pub written : Matrix → (s o m : ℕ) → Matrix
written f s o m a b = cond (a == s && b == o) m (f a b)

-- a mask that has some right
abbrev pub some : ℕ → Bool
some m = nat_lt 0 m

abbrev pub one_if : Bool → ℕ
one_if b = cond b 1 0

-- the sum of f over the numbers below n
unfoldable pub sum_below : (ℕ → ℕ) → ℕ → ℕ
sum_below f zero = 0
sum_below f (suc n) = sum_below f n + f n

-- how many cells of row s are not empty
abbrev pub row_count : Matrix → (s : ℕ) → ℕ
row_count f s = sum_below (λ o. one_if (some (f s o))) 64

-- how many cells are not empty
abbrev pub count : Matrix → ℕ
count f = sum_below (row_count f) 64

-- A cell takes a mask where it is not empty, or the mask is, or the limit is not reached.
abbrev pub has_room : (limit : ℕ) → Matrix → (s o m : ℕ) → Bool
has_room limit f s o m = some (f s o) || (not (some m) || nat_lt (count f) limit)

-- A write is refused exactly if a name is over 63, or if the cell is empty, the new mask is not, and the limit is reached.
abbrev pub takes : (limit : ℕ) → Matrix → (s o m : ℕ) → Bool
takes limit f s o m = is_name s && (is_name o && has_room limit f s o m)

-- The rules of a write, each with whether it is broken: both are names, and there is room.
abbrev pub write_rules : (limit : ℕ) → Matrix → (s o m : ℕ) → List (ℕ × Bool)
write_rules limit f s o m = (11, not (is_name s && is_name o)) ∷ (16, not (has_room limit f s o m)) ∷ []
