-- A matrix that is filled bit by bit has fewer cells that are not empty than the one that it is to become.
use Rattle.std.proofs.Common.{◌≡◌, ℕ, zero, suc, ◌+◌, ◌<◌, ◌≤◌, ◌⊎◌, inl, inr, ⊎_elim, refl, ◌∙◌, arith}
use Rattle.std.proofs.lemmas.Bool.{cases_eq, cases_lt, lt-ltb}
use Rattle.stores.specs.Matrices.{Matrix, written, some, one_if, sum_below, row_count, count}
use Rattle.stores.proofs.Counting.{one_bound, count_written}
use Rattle.stores.proofs.Writing.{written_here, written_row, written_column}

-- a write has changed the cell, or the cell is as it was
pub written_at : (f : Matrix) (s o m a b : ℕ) → ((a ≡ s) × (b ≡ o) × (written f s o m a b ≡ m)) ⊎ (written f s o m a b ≡ f a b)
written_at f s o m a b =
    ⊎_elim
    (λ (row : a ≡ s).
    ⊎_elim
    (λ (column : b ≡ o). inl (row, column, rw (row, column) (written_here f s o m)))
    (λ (other : b ≡ o → ⊥). inr (written_column f s o m a b other))
    (cases_eq b o))
    (λ (other : a ≡ s → ⊥). inr (written_row f s o m a b other))
    (cases_eq a s)

sum_mono : (f g : ℕ → ℕ) (n : ℕ) → ((k : ℕ) → f k ≤ g k) → sum_below f n ≤ sum_below g n
unfolding sum_below
sum_mono f g zero h = omega arith
sum_mono f g (suc n) h = omega (arith, sum_mono f g n h, h n)

one_mono : (m n : ℕ) → (n ≡ 0 → m ≡ 0) → one_if (some m) ≤ one_if (some n)
one_mono m n h =
    ⊎_elim
    (λ (more : 0 < n). rw (lt-ltb 0 n more) (one_bound (some m)))
    (λ (none : n ≤ 0). rw (h (omega arith)) (omega arith))
    (cases_lt 0 n)

-- where t is empty, so is f
abbrev pub Inside : (f t : Matrix) → Type 0
Inside f t = (a b : ℕ) → t a b ≡ 0 → f a b ≡ 0

count_mono : (f t : Matrix) → Inside f t → count f ≤ count t
count_mono f t inside = sum_mono (row_count f) (row_count t) 64 (λ a. sum_mono (λ b. one_if (some (f a b))) (λ b. one_if (some (t a b))) 64 (λ b. one_mono (f a b) (t a b) (inside a b)))

-- one cell is yet to be filled
pub count_less : (f t : Matrix) (s o : ℕ) → s < 64 → o < 64 → Inside f t → f s o ≡ 0 → 0 < t s o → count f < count t
count_less f t s o hs ho inside empty full =
    let more : count (written f s o 1) + one_if (some (f s o)) ≡ count f + 1 = count_written f s o 1 hs ho in
    let none : one_if (some (f s o)) ≡ 0 = rw empty refl in
    let still : Inside (written f s o 1) t = λ a b e.
    ⊎_elim
    (λ here. absurd (omega (arith, rw (here.0, here.1) at e)))
    (λ (beside : written f s o 1 a b ≡ f a b). beside ∙ inside a b e)
    (written_at f s o 1 a b) in
    omega (arith, count_mono (written f s o 1) t still)
