-- The rule of the table of orders, by one test over the whole table.
use Rattle.std.proofs.Common.{◌≡◌, ℕ, Bool, true, not, ◌||◌, eqb, refl, ⊎_elim}
use Rattle.std.proofs.lemmas.Bool.{agree_below, agree_below_at, eqb-true, eq-eqb, or_cases, not-true, both_ways}
use Rattle.tapes.specs.Table.{byte_at, OneRow}

-- other bytes, or the same place
abbrev apart : ℕ → ℕ → Bool
apart i j = not (eqb (byte_at i) (byte_at j)) || eqb i j

abbrev always : ℕ → Bool
always n = true

pub one_row : OneRow
one_row i j hi hj same =
    let tested = agree_below_at (apart i) always 17 j (agree_below_at (λ k. agree_below (apart k) always 17) always 17 i refl hi) hj in
    ⊎_elim
    (λ (differ : not (eqb (byte_at i) (byte_at j)) ≡ true). absurd (both_ways _ (not-true _ differ) (eq-eqb _ _ same)))
    (λ (equal : eqb i j ≡ true). eqb-true i j equal)
    (or_cases _ _ tested)
