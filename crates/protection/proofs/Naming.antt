-- Which name is put for which parameter.
use Rattle.std.proofs.Common.{◌≡◌, ℕ, ◌<◌, ◌≤◌, false, Some, None, Option, eqb, List, length, get_or, unwrap_or, sym, refl, ap, ◌∙◌, ⊎_elim, arith}
use Rattle.std.specs.List.{position_or_len}
use Rattle.std.proofs.lemmas.Bool.{cases_eq, cases_lt, eq-eqb, ne_eqb, eqb-true, eqb-false, lt-ltb}
use Rattle.std.proofs.lemmas.List.Quantifiers.{position-Some}
use Rattle.std.proofs.lemmas.List.Sums.{fails_before_first}
use Rattle.std.proofs.lemmas.Option.{none-some}
use Rattle.protection.specs.Commands.{name_at}
use Rattle.protection.specs.Excerpts.{parameter_of, itself, Distinct}
use Rattle.protection.proofs.Places.{Placed}

-- each parameter is its own name
pub placed_itself : (n : ℕ) → Placed n itself itself
placed_itself n i x h = refl

-- the parameter that a name is put for, or a number past the parameters
abbrev pub place_in : (names : List ℕ) → (name : ℕ) → ℕ
place_in names x = unwrap_or (parameter_of names x) (length names)

-- the name of what was found
pub named : (names : List ℕ) (x i : ℕ) → parameter_of names x ≡ Some i → (i < length names) × (name_at names i ≡ x)
named names x i e =
    let here = position-Some (λ m. eqb m x) names i 64 e in
    (here.0, eqb-true (get_or names i 64) x here.1)

-- what is not found is the name of none
pub unnamed : (names : List ℕ) (x i : ℕ) → parameter_of names x ≡ None → i < length names → eqb x (name_at names i) ≡ false
unnamed names x i e lt =
    let first = position_or_len (λ m. eqb m x) names in
    ⊎_elim
    (λ (inside : first < length names). absurd (none-some first (sym e ∙ rw (lt-ltb first (length names) inside) refl)))
    (λ (past : length names ≤ first).
    let no : eqb (name_at names i) x ≡ false = fails_before_first (λ m. eqb m x) names i 64 (omega arith) in
    ne_eqb x (name_at names i) (λ same. eqb-false (name_at names i) x no (sym same)))
    (cases_lt first (length names))

module _ (names : List ℕ) (distinct : Distinct names) where
  placed_by : (i x : ℕ) (o : Option ℕ) → parameter_of names x ≡ o → i < length names → eqb x (name_at names i) ≡ eqb (unwrap_or o (length names)) i
  placed_by i x (Some j) e lt =
      let found = named names x j e in
      ⊎_elim
      (λ (same : j ≡ i). eq-eqb x (name_at names i) (sym found.1 ∙ ap (name_at names) same) ∙ sym (eq-eqb j i same))
      (λ (other : j ≡ i → ⊥). ne_eqb x (name_at names i) (λ e. other (distinct j i found.0 lt (found.1 ∙ e))) ∙ sym (ne_eqb j i other))
      (cases_eq j i)
  placed_by i x None e lt = unnamed names x i e lt ∙ sym (ne_eqb (length names) i (λ same. omega arith))

  pub placed_names : Placed (length names) (name_at names) (place_in names)
  placed_names i x lt = placed_by i x (parameter_of names x) refl lt
