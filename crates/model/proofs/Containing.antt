-- Which masks lie within which, and what two have together: for masks of 16 bits.
use Rattle.std.proofs.Common.{◌≡◌, ◌≢◌, ℕ, ◌+◌, ◌<◌, ◌≤◌, Bool, true, false, not, ◌&&◌, ◌||◌, refl, sym, ap, ◌∙◌, ⊎_elim, arith}
use Rattle.std.proofs.lemmas.Bool.{cases_Bool, cases_lt, cases_eq, both_ways}
use Rattle.std.proofs.lemmas.Nat.Bits.{bit_at_and, bit_at_or, bit_at-lt, same_from_bits}
use Rattle.std.specs.Int.{bit_at}
use lib.Bits.{bit_and, bit_or}
use Rattle.model.specs.Lowest.{NoneBelow}
use Rattle.model.specs.Masks.{has, Within, Outside}
use Rattle.model.proofs.Rights.{has_one, has_none, one_from, none_from, has_over}

pub joined_has : (m n q : ℕ) → has (bit_or m n) q ≡ (has m q || has n q)
joined_has m n q =
    ⊎_elim
    (λ (here : has m q ≡ true). rw here (has_one (bit_or m n) q (omega (arith, bit_at_or m n q, one_from m q here, bit_at-lt n q))))
    (λ (not : has m q ≡ false).
    ⊎_elim
    (λ (there : has n q ≡ true). rw (not, there) (has_one (bit_or m n) q (omega (arith, bit_at_or m n q, one_from n q there, bit_at-lt m q))))
    (λ (none : has n q ≡ false). rw (not, none) (has_none (bit_or m n) q (omega (arith, bit_at_or m n q, none_from m q not, none_from n q none))))
    (cases_Bool (has n q)))
    (cases_Bool (has m q))

-- a mask that the other leaves as it is lies within it, and only such a one
pub within_from_and : (m n : ℕ) → bit_and m n ≡ m → Within m n
within_from_and m n same q h =
    let both : bit_at m q ≤ bit_at n q = omega (arith, bit_at_and m n q, ap (λ x. bit_at x q) same) in
    has_one n q (omega (arith, both, one_from m q h, bit_at-lt n q))

pub and_from_within : (m n : ℕ) → Within m n → bit_and m n ≡ m
and_from_within m n within =
    same_from_bits (bit_and m n) m
    (λ q.
    ⊎_elim
    (λ (here : has m q ≡ true). omega (arith, bit_at_and m n q, one_from m q here, one_from n q (within q here)))
    (λ (none : has m q ≡ false). omega (arith, bit_at_and m n q, none_from m q none))
    (cases_Bool (has m q)))

-- every right below k of the first is one of the second
abbrev pub WithinBelow : (k m n : ℕ) → Type 0
WithinBelow k m n = (q : ℕ) → q < k → has m q ≡ true → has n q ≡ true

pub within_none : (m n : ℕ) → WithinBelow 0 m n
within_none m n q lt h = absurd (omega (arith, lt))

pub within_more : (k m n : ℕ) → WithinBelow k m n → (has m k && not (has n k)) ≡ false → WithinBelow (k + 1) m n
within_more k m n below kept q lt h =
    ⊎_elim
    (λ (same : q ≡ k). ap (has n) same ∙ by (has m k) (has n k) kept (ap (has m) (sym same) ∙ h))
    (λ (other : q ≢ k). below q (omega (arith, lt, other)) h)
    (cases_eq q k)
  where
    by : (a b : Bool) → (a && not b) ≡ false → a ≡ true → b ≡ true
    by a true h is = refl
    by true false h is = cc
    by false false h is = cc

-- there are sixteen rights
pub within_all : (k m n : ℕ) → 16 ≤ k → m < 65536 → WithinBelow k m n → Within m n
within_all k m n all fits below q h =
    ⊎_elim
    (λ (low : q < 16). below q (omega (arith, low, all)) h)
    (λ (over : 16 ≤ q). absurd (both_ways (has m q) (has_over m q fits over) h))
    (cases_lt q 16)

-- so none below k is outside
pub none_outside : (k m n : ℕ) → WithinBelow k m n → NoneBelow (Outside m n) k
none_outside k m n below q low out = both_ways (has n q) out.1 (below q low out.0)
