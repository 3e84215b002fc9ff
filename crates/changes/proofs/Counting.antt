-- How many cells a change fills, from what it takes away and what it puts there.
use Rattle.std.proofs.Common.{◌≡◌, ℕ, ◌+◌, ◌*◌, ◌≤◌, refl, subst, add-one, arith}
use Rattle.stores.specs.Matrices.{sum_below}

sum_none : (f : ℕ → ℕ) → sum_below f 0 ≡ 0
unfolding sum_below
sum_none f = refl

sum_more : (f : ℕ → ℕ) (n : ℕ) → sum_below f (n + 1) ≡ sum_below f n + f n
unfolding sum_below
sum_more f n = rw add-one refl

-- Over the numbers below n, t comes out of f by what is lost and what is gained, at most so much for each number.
pub record Exchanged (t f : ℕ → ℕ) (most n lost gained : ℕ) : Type 0 where
  pub exact : lost + sum_below t n ≡ gained + sum_below f n
  pub few_lost : lost ≤ most * n
  pub few_gained : gained ≤ most * n

pub exchanged_none : (t f : ℕ → ℕ) (most : ℕ) → Exchanged t f most 0 0 0
exchanged_none t f most = record { exact = rw (sum_none t, sum_none f) refl; few_lost = omega arith; few_gained = omega arith }

-- one number more
pub exchanged_more : {t f : ℕ → ℕ} {most n lost gained : ℕ} (l g : ℕ) → Exchanged t f most n lost gained → l + t n ≡ g + f n → l ≤ most → g ≤ most → Exchanged t f most (n + 1) (lost + l) (gained + g)
exchanged_more {t} {f} {most} {n} l g before here few-l few-g = record {
  exact = rw (sum_more t n, sum_more f n) (omega (arith, before.exact));
  few_lost = omega (arith, before.few_lost);
  few_gained = omega (arith, before.few_gained);
}

-- all that there are
pub exchanged_all : {t f : ℕ → ℕ} {most n lost gained : ℕ} (m : ℕ) → n ≡ m → Exchanged t f most n lost gained → lost + sum_below t m ≡ gained + sum_below f m
exchanged_all {t} {f} {most} {n} {lost} {gained} m same all = subst (λ k. lost + sum_below t k ≡ gained + sum_below f k) same all.exact
