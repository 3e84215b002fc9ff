-- What a mask with one right more, and one less, has: for every number as a mask.
use Rattle.std.proofs.Common.{◌≡◌, ◌≢◌, ℕ, ◌-◌, ◌*◌, ◌%◌, ◌^◌, ◌<◌, ◌≤◌, true, false, not, ◌&&◌, ◌||◌, ltb, eqb, refl, sym, ap, ◌∙◌, ⊎_elim, arith}
use Rattle.std.proofs.lemmas.Bool.{eqb-true, eqb-false, lt-ltb, le-ltb, eq-eqb, ne_eqb, cases_lt, cases_eq, cases_Bool, and_right, or_right}
use Rattle.std.proofs.Math.Bool.{and-true, or-false}
use Rattle.std.proofs.lemmas.Nat.{pow_pos, one_shl, pow_below, and-not, and_comm, or_lt, le_or_r}
use Rattle.std.proofs.lemmas.Nat.Bits.{and_pow, bit_at_or, bit_at-lt, bit_at-pow_same, bit_at-pow_other, bit_at_xor, bit_at_above, bit_at-zero}
use Rattle.std.specs.Int.{bit_at}
use Rattle.std.specs.Int.Bits.{or_add_and}
use lib.Bits.{bit_and, bit_or, bit_xor, xor_add_and}
use Rattle.model.specs.Masks.{has, with_right, without_right}

-- ---- a right in a mask is a bit of it

same_has : (m n q : ℕ) → bit_at m q ≡ bit_at n q → has m q ≡ has n q
unfolding has
same_has m n q e = ap (λ b. eqb b 1) e

pub has_one : (m q : ℕ) → bit_at m q ≡ 1 → has m q ≡ true
unfolding has
has_one m q one = eq-eqb (bit_at m q) 1 one

pub has_none : (m q : ℕ) → bit_at m q ≡ 0 → has m q ≡ false
unfolding has
has_none m q none = ne_eqb (bit_at m q) 1 (λ one. omega arith)

pub one_from : (m q : ℕ) → has m q ≡ true → bit_at m q ≡ 1
unfolding has
one_from m q h = eqb-true (bit_at m q) 1 h

pub none_from : (m q : ℕ) → has m q ≡ false → bit_at m q ≡ 0
unfolding has
none_from m q h = let other : bit_at m q ≢ 1 = eqb-false (bit_at m q) 1 h in omega arith

-- the empty mask has none
pub holds_nothing : (q : ℕ) → has 0 q ≡ false
holds_nothing q = has_none 0 q (bit_at-zero q)

-- a mask of 16 bits has no right from 16 on
pub has_over : (m q : ℕ) → m < 65536 → 16 ≤ q → has m q ≡ false
has_over m q fits over = has_none m q (bit_at_above m 16 q fits over)

-- the bit that a mask has of 2 ^ r, and the one that it does not have
and_one : (m r : ℕ) → has m r ≡ true → bit_and m (2 ^ r) ≡ 1 * 2 ^ r
and_one m r h = and_pow m r ∙ ap (λ b. b * 2 ^ r) (one_from m r h)

and_none : (m r : ℕ) → has m r ≡ false → bit_and m (2 ^ r) ≡ 0 * 2 ^ r
and_none m r h = and_pow m r ∙ ap (λ b. b * 2 ^ r) (none_from m r h)

-- ---- one right more

pub with_over : (m r : ℕ) → 16 ≤ r → with_right m r ≡ m
unfolding with_right
with_over m r over = rw (le-ltb r 16 over) refl

pub with_or : (m r : ℕ) → r < 16 → with_right m r ≡ bit_or m (2 ^ r)
unfolding with_right
with_or m r low =
    ⊎_elim
    (λ (had : has m r ≡ true). rw (lt-ltb r 16 low, had) (omega (arith, or_add_and m (2 ^ r), and_one m r had)))
    (λ (new : has m r ≡ false). rw (lt-ltb r 16 low, new) (omega (arith, or_add_and m (2 ^ r), and_none m r new)))
    (cases_Bool (has m r))

-- as a mask of 16 bits is computed
pub entered : (m r : ℕ) → r < 16 → bit_or m (1 * 2 ^ r % 65536) ≡ with_right m r
entered m r low = ap (bit_or m) (one_shl r 16 low) ∙ sym (with_or m r low)

-- the right itself
with_same : (m r : ℕ) → r < 16 → has (with_right m r) r ≡ true
with_same m r low =
    rw (with_or m r low) (has_one (bit_or m (2 ^ r)) r (omega (arith, bit_at_or m (2 ^ r) r, bit_at-pow_same r, bit_at-lt m r)))

-- and all others
with_other : (m r q : ℕ) → q ≢ r → has (with_right m r) q ≡ has m q
with_other m r q other =
    ⊎_elim
    (λ (low : r < 16). rw (with_or m r low) (same_has (bit_or m (2 ^ r)) m q (omega (arith, bit_at_or m (2 ^ r) q, bit_at-pow_other r q other))))
    (λ (over : 16 ≤ r). rw (with_over m r over) refl)
    (cases_lt r 16)

pub with_has : (m r q : ℕ) → has (with_right m r) q ≡ (has m q || (eqb q r && ltb r 16))
with_has m r q =
    ⊎_elim
    (λ (same : q ≡ r).
    ⊎_elim
    (λ (low : r < 16). rw (same, eq-eqb r r refl, lt-ltb r 16 low) (with_same m r low ∙ sym (or_right (has m r) true refl)))
    (λ (over : 16 ≤ r). rw (same, eq-eqb r r refl, le-ltb r 16 over, with_over m r over) (sym (or-false (has m r))))
    (cases_lt r 16))
    (λ (other : q ≢ r). rw (ne_eqb q r other) (with_other m r q other ∙ sym (or-false (has m q))))
    (cases_eq q r)

-- a mask with a right in it is not empty
pub with_some : (m r : ℕ) → r < 16 → 0 < with_right m r
with_some m r low = rw (with_or m r low) (omega (arith, le_or_r m (2 ^ r), pow_pos r))

pub with_fits : (m r : ℕ) → m < 65536 → with_right m r < 65536
with_fits m r fits =
    ⊎_elim
    (λ (low : r < 16). rw (with_or m r low) (or_lt 16 m (2 ^ r) fits (pow_below r 16 low)))
    (λ (over : 16 ≤ r). rw (with_over m r over) fits)
    (cases_lt r 16)

-- ---- one right less

pub without_none : (m r : ℕ) → has m r ≡ false → without_right m r ≡ m
unfolding without_right
without_none m r none = rw none refl

pub without_and : (m r : ℕ) → without_right m r ≡ m - bit_and m (2 ^ r)
unfolding without_right
without_and m r =
    ⊎_elim
    (λ (had : has m r ≡ true). rw had (omega (arith, and_one m r had)))
    (λ (none : has m r ≡ false). rw none (omega (arith, and_none m r none)))
    (cases_Bool (has m r))

-- a right that is in the mask is turned over
without_xor : (m r : ℕ) → has m r ≡ true → without_right m r ≡ bit_xor m (2 ^ r)
without_xor m r had = omega (arith, without_and m r, xor_add_and m (2 ^ r), and_one m r had)

without_same : (m r : ℕ) → has (without_right m r) r ≡ false
without_same m r =
    ⊎_elim
    (λ (had : has m r ≡ true).
    rw (without_xor m r had) (has_none (bit_xor m (2 ^ r)) r (omega (arith, bit_at_xor m (2 ^ r) r, bit_at-pow_same r, one_from m r had))))
    (λ (none : has m r ≡ false). rw (without_none m r none) none)
    (cases_Bool (has m r))

without_other : (m r q : ℕ) → q ≢ r → has (without_right m r) q ≡ has m q
without_other m r q other =
    ⊎_elim
    (λ (had : has m r ≡ true).
    rw (without_xor m r had) (same_has (bit_xor m (2 ^ r)) m q (omega (arith, bit_at_xor m (2 ^ r) q, bit_at-pow_other r q other, bit_at-lt m q))))
    (λ (none : has m r ≡ false). rw (without_none m r none) refl)
    (cases_Bool (has m r))

pub without_has : (m r q : ℕ) → has (without_right m r) q ≡ (has m q && not (eqb q r))
without_has m r q =
    ⊎_elim
    (λ (same : q ≡ r). rw (same, eq-eqb r r refl) (without_same m r ∙ sym (and_right (has m r) false refl)))
    (λ (other : q ≢ r). rw (ne_eqb q r other) (without_other m r q other ∙ sym (and-true (has m q))))
    (cases_eq q r)

pub without_le : (m r : ℕ) → without_right m r ≤ m
without_le m r = omega (arith, without_and m r)

-- as a mask of 16 bits is computed
pub taken : (m r : ℕ) → m < 65536 → r < 16 → bit_and m (65535 - 1 * 2 ^ r % 65536) ≡ without_right m r
taken m r fits low =
    let bit = 2 ^ r in
    let small : bit < 2 ^ 16 = pow_below r 16 low in
    ap (λ b. bit_and m (65535 - b)) (one_shl r 16 low)
    ∙ omega (arith, and-not 16 bit m small fits, and_comm m (65535 - bit), and_comm m bit, without_and m r)

pub without_over : (m r : ℕ) → m < 65536 → 16 ≤ r → without_right m r ≡ m
without_over m r fits over = without_none m r (has_over m r fits over)

pub kept_over : (m r : ℕ) → m < 65536 → 16 ≤ r → (q : ℕ) → has m q ≡ (has m q && not (eqb q r))
kept_over m r fits over q = ap (λ n. has n q) (sym (without_over m r fits over)) ∙ without_has m r q
