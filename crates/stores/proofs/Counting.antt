-- How many cells are not empty, and what a write makes of that.
use Rattle.std.proofs.Common.{◌≡◌, ℕ, zero, suc, ◌+◌, ◌*◌, ◌<◌, ◌≤◌, Bool, true, false, sym, refl, ap, ◌∙◌, ⊎_elim, not-suc-le-zero, add-mul, zero-mul, add-one, arith}
use Rattle.std.proofs.lemmas.Bool.{cases_eq}
use Rattle.stores.specs.Matrices.{Matrix, blank, on_names, written, some, one_if, sum_below, row_count, count}
use Rattle.stores.proofs.Writing.{written_here, written_row, written_column, at_names}

-- a sum looks only below its end
pub sum_same : (f g : ℕ → ℕ) (n : ℕ) → ((k : ℕ) → k < n → f k ≡ g k) → sum_below f n ≡ sum_below g n
unfolding sum_below
sum_same f g zero h = refl
sum_same f g (suc n) h =
    let here : f n ≡ g n = h n (omega arith) in
    let rest : sum_below f n ≡ sum_below g n = sum_same f g n (λ k lt. h k (omega arith)) in
    rw (here, rest) refl

pub sum_bound : (f : ℕ → ℕ) (most n : ℕ) → ((k : ℕ) → f k ≤ most) → sum_below f n ≤ n * most
unfolding sum_below
sum_bound f most zero h = rw zero-mul (omega arith)
sum_bound f most (suc n) h =
    let rest : sum_below f n ≤ n * most = sum_bound f most n h in
    let here : f n ≤ most = h n in
    rw (← add-one) (rw add-mul (omega arith))

-- two that differ at one place only
pub sum_change : (f g : ℕ → ℕ) (i n : ℕ) → i < n → ((k : ℕ) → (k ≡ i → ⊥) → f k ≡ g k) → sum_below f n + g i ≡ sum_below g n + f i
unfolding sum_below
sum_change f g i zero lt h = absurd (not-suc-le-zero lt)
sum_change f g i (suc n) lt h =
    ⊎_elim
    (λ (same : i ≡ n).
    let rest : sum_below f n ≡ sum_below g n = sum_same f g n (λ k below. h k (λ e. omega (arith, e))) in
    let gi : g i ≡ g n = ap g same in
    let fi : f i ≡ f n = ap f same in
    omega arith)
    (λ (other : i ≡ n → ⊥).
    let rest : sum_below f n + g i ≡ sum_below g n + f i = sum_change f g i n (omega (arith, other)) h in
    let here : f n ≡ g n = h n (λ e. other (sym e)) in
    omega arith)
    (cases_eq i n)

pub one_bound : (b : Bool) → one_if b ≤ 1
one_bound true = omega arith
one_bound false = omega arith

pub row_bound : (f : Matrix) (s : ℕ) → row_count f s ≤ 64
row_bound f s = let h : row_count f s ≤ 64 * 1 = sum_bound (λ o. one_if (some (f s o))) 1 64 (λ o. one_bound (some (f s o))) in h

pub count_bound : (f : Matrix) → count f ≤ 4096
count_bound f = let h : count f ≤ 64 * 64 = sum_bound (row_count f) 64 64 (row_bound f) in h

row_written : (f : Matrix) (s o m : ℕ) → o < 64 → row_count (written f s o m) s + one_if (some (f s o)) ≡ row_count f s + one_if (some m)
row_written f s o m lt =
    let change : row_count (written f s o m) s + one_if (some (f s o)) ≡ row_count f s + one_if (some (written f s o m s o)) =
    sum_change (λ b. one_if (some (written f s o m s b))) (λ b. one_if (some (f s b))) o 64 lt
    (λ b ne. ap (λ v. one_if (some v)) (written_column f s o m s b ne)) in
    change ∙ ap (λ v. row_count f s + one_if (some v)) (written_here f s o m)

pub count_blank : count blank ≡ 0
unfolding sum_below
count_blank = refl

-- only cells between names are counted
pub count_on_names : (f : Matrix) → count (on_names f) ≡ count f
count_on_names f =
    sum_same (row_count (on_names f)) (row_count f) 64
    (λ a ha. sum_same (λ b. one_if (some (on_names f a b))) (λ b. one_if (some (f a b))) 64
    (λ b hb. ap (λ v. one_if (some v)) (at_names f a b ha hb)))

-- What a write of m changes: the old cell counts no more, the new one does.
pub count_written : (f : Matrix) (s o m : ℕ) → s < 64 → o < 64 → count (written f s o m) + one_if (some (f s o)) ≡ count f + one_if (some m)
count_written f s o m hs ho =
    let row : row_count (written f s o m) s + one_if (some (f s o)) ≡ row_count f s + one_if (some m) = row_written f s o m ho in
    let all : count (written f s o m) + row_count f s ≡ count f + row_count (written f s o m) s =
    sum_change (row_count (written f s o m)) (row_count f) s 64 hs
    (λ a ne. sum_same (λ b. one_if (some (written f s o m a b))) (λ b. one_if (some (f a b))) 64
    (λ b _. ap (λ v. one_if (some v)) (written_row f s o m a b ne))) in
    omega arith

-- a cell that is not empty is one of them
pub count_held : (f : Matrix) (s o : ℕ) → s < 64 → o < 64 → one_if (some (f s o)) ≤ count f
count_held f s o hs ho = omega (arith, count_written f s o 0 hs ho)

-- Where one cell is empty, there are fewer than 4,096 that are not.
pub count_room : (f : Matrix) (s o : ℕ) → s < 64 → o < 64 → f s o ≡ 0 → count f < 4096
count_room f s o hs ho e =
    let change : count (written f s o 1) + one_if (some (f s o)) ≡ count f + 1 = count_written f s o 1 hs ho in
    let none : one_if (some (f s o)) ≡ 0 = rw e refl in
    let bound = count_bound (written f s o 1) in
    omega arith
