-- The cells of an outcome.
use Rattle.std.proofs.Common.{◌≡◌, ℕ, ◌<◌, ◌≤◌, true, false, is_some, Some, None, Option, refl, sym, ap, ◌∙◌, subst, ⊎_elim, arith}
use Rattle.std.proofs.lemmas.Bool.{cases_lt}
use Rattle.model.specs.declared.stamp.Stamp.{Stamp}
use Rattle.model.specs.Masks.{has, Within}
use Rattle.protection.specs.States.{Protection}
use Rattle.certificates.specs.Certificates.{Certificate, allows, between}
use Rattle.castings.specs.declared.escape.Breach.{Breach}
use Rattle.castings.specs.Castings.{Casting}
use Rattle.castings.specs.Conditions.{CellKept, BreachAfter, NumberLost}
use Rattle.castings.specs.Escapes.{IsBreach, CellOutside}

pub some_of : {X : Type 0} (o : Option X) → is_some o ≡ true → (x : X) × (o ≡ Some x)
some_of None h = cc
some_of (Some x) h = (x, refl)

-- an unlisted stamp is a breach
pub number_lost : (c : Certificate) (after : Protection) (i : ℕ) (b : Breach) → NumberLost c i (after.entry i) b → BreachAfter c after b
number_lost c after i b lost = λ renewed before.
    subst (IsBreach c renewed before after) (sym lost.0) (record { stamp = lost.1.0; stands = lost.1.1; unlisted = lost.1.2 })

module _ (c : Certificate) (after : Protection) (σ : Casting) (same : σ ≡ after.entry) where
  -- what is allowed between two that stand
  pub between_standing : (i j : ℕ) (s t : Stamp) → after.entry i ≡ Some s → after.entry j ≡ Some t → between c (σ i) (σ j) ≡ allows c s t
  between_standing i j s t here there =
      ap (λ f. between c (f i) (f j)) same
      ∙ ap (λ x. between c x (after.entry j)) here
      ∙ ap (between c (Some s)) there

  pub cell_within : (i j allowed : ℕ) → allowed ≡ between c (σ i) (σ j) → Within (after.cells i j) allowed → CellKept c after i j
  cell_within i j allowed is within s t here there = subst (Within (after.cells i j)) (is ∙ between_standing i j s t here there) within

  pub cell_outside : (i j allowed right : ℕ) → allowed ≡ between c (σ i) (σ j) → is_some (after.entry i) ≡ true → is_some (after.entry j) ≡ true → has (after.cells i j) right ≡ true → has allowed right ≡ false → CellOutside c after i j right
  cell_outside i j allowed right is row column holds out =
      let s = some_of (after.entry i) row in
      let t = some_of (after.entry j) column in
      record {
        row = s.0;
        column = t.0;
        stands = s.1;
        stands_too = t.1;
        holds = holds;
        outside = ap (λ m. has m right) (sym (is ∙ between_standing i j s.0 t.0 s.1 t.1)) ∙ out;
      }

-- where one does not stand, there is nothing to keep
pub no_row : (c : Certificate) (after : Protection) (i j : ℕ) → is_some (after.entry i) ≡ false → CellKept c after i j
no_row c after i j none s t here there = absurd (by (after.entry i) none here)
  where
    by : (o : Option Stamp) → is_some o ≡ false → o ≡ Some s → ⊥
    by None none here = cc
    by (Some x) none here = cc

pub no_column : (c : Certificate) (after : Protection) (i j : ℕ) → is_some (after.entry j) ≡ false → CellKept c after i j
no_column c after i j none s t here there = absurd (by (after.entry j) none there)
  where
    by : (o : Option Stamp) → is_some o ≡ false → o ≡ Some t → ⊥
    by None none here = cc
    by (Some x) none here = cc

-- what is kept below three is kept of all
pub all_columns : (c : Certificate) (after : Protection) (i n : ℕ) → 3 ≤ n → ((j : ℕ) → 3 ≤ j → after.entry j ≡ None) → ((j : ℕ) → j < n → CellKept c after i j) → (j : ℕ) → CellKept c after i j
all_columns c after i n all none below j =
    ⊎_elim
    (λ (low : j < n). below j low)
    (λ (past : n ≤ j). no_column c after i j (ap is_some (none j (omega (arith, all, past)))))
    (cases_lt j n)

pub all_rows : (c : Certificate) (after : Protection) (n : ℕ) → 3 ≤ n → ((i : ℕ) → 3 ≤ i → after.entry i ≡ None) → ((i : ℕ) → i < n → (j : ℕ) → CellKept c after i j) → (i j : ℕ) → CellKept c after i j
all_rows c after n all none below i j =
    ⊎_elim
    (λ (low : i < n). below i low j)
    (λ (past : n ≤ i). no_row c after i j (ap is_some (none i (omega (arith, all, past)))))
    (cases_lt i n)
