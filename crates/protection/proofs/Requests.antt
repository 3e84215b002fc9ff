-- The lowest parameter of which something is true, as a loop over them comes to it.
use Rattle.std.proofs.Common.{◌≡◌, ℕ, zero, suc, ◌+◌, ◌<◌, ◌≤◌, Bool, true, false, cond, Some, None, Option, ⊎_elim, refl, sym, ap, ◌∙◌, arith}
use Rattle.std.proofs.lemmas.Bool.{cases_eq}
use Rattle.std.proofs.lemmas.Option.{none-some}
use Rattle.protection.specs.Requests.{first_from, first_parameter}

-- false of the numbers from i to below m
abbrev pub Clear : (bad : ℕ → Bool) → (i m : ℕ) → Type 0
Clear bad i m = (j : ℕ) → i ≤ j → j < m → bad j ≡ false

found_from : (bad : ℕ → Bool) (i n m : ℕ) → i ≤ m → m < i + n → Clear bad i m → bad m ≡ true → first_from bad i n ≡ Some m
found_from bad i zero m low high clear here = absurd (omega arith)
found_from bad i (suc n) m low high clear here =
    ⊎_elim
    (λ (same : i ≡ m). rw (ap bad same ∙ here) (ap Some same))
    (λ (other : i ≡ m → ⊥).
    let first : bad i ≡ false = clear i (omega arith) (omega (arith, other)) in
    rw first (found_from bad (suc i) n m (omega (arith, other)) (omega arith) (λ j lo hi. clear j (omega arith) hi) here))
    (cases_eq i m)

missed_from : (bad : ℕ → Bool) (i n : ℕ) → Clear bad i (i + n) → first_from bad i n ≡ None
missed_from bad i zero clear = refl
missed_from bad i (suc n) clear =
    let first : bad i ≡ false = clear i (omega arith) (omega arith) in
    rw first (missed_from bad (suc i) n (λ j lo hi. clear j (omega arith) (omega arith)))

split : (b : Bool) (i : ℕ) (rest : Option ℕ) → cond b (Some i) rest ≡ None → (b ≡ false) × (rest ≡ None)
split true i rest e = absurd (none-some i (sym e))
split false i rest e = (refl, e)

clear_from : (bad : ℕ → Bool) (i n : ℕ) → first_from bad i n ≡ None → Clear bad i (i + n)
clear_from bad i zero e = λ j lo hi. absurd (omega arith)
clear_from bad i (suc n) e = λ j lo hi.
    let parts = split (bad i) i (first_from bad (suc i) n) e in
    ⊎_elim
    (λ (same : i ≡ j). ap bad (sym same) ∙ parts.0)
    (λ (other : i ≡ j → ⊥). clear_from bad (suc i) n parts.1 j (omega (arith, other)) (omega arith))
    (cases_eq i j)

module _ (bad : ℕ → Bool) (n : ℕ) where
  pub found : (m : ℕ) → m < n → Clear bad 0 m → bad m ≡ true → first_parameter n bad ≡ Some m
  found m lt clear here = found_from bad 0 n m (omega arith) (omega arith) clear here

  pub missed : (m : ℕ) → m ≡ n → Clear bad 0 m → first_parameter n bad ≡ None
  missed m same clear = missed_from bad 0 n (λ j lo hi. clear j lo (omega arith))

  pub clear_of : first_parameter n bad ≡ None → (i : ℕ) → i < n → bad i ≡ false
  clear_of e i lt = clear_from bad 0 n e i (omega arith) (omega arith)

-- one number more
pub clear_more : (bad : ℕ → Bool) (m : ℕ) → Clear bad 0 m → bad m ≡ false → Clear bad 0 (m + 1)
clear_more bad m clear here = λ j lo hi.
    ⊎_elim
    (λ (same : j ≡ m). ap bad same ∙ here)
    (λ (other : j ≡ m → ⊥). clear j lo (omega (arith, other)))
    (cases_eq j m)
