-- Names that keep the rules: none is over 63, and none comes again.
use Rattle.std.proofs.Common.{◌≡◌, ℕ, ◌<◌, ◌≤◌, ◌==◌, true, not, List, length, take, get_or, None, ⊎_elim, refl, sym, ap, ◌∙◌, arith, length-take}
use Rattle.std.proofs.lemmas.Bool.{cases_lt, eq-eqb, ltb-true, not-false, true≢false}
use Rattle.std.proofs.lemmas.List.{get_or-take}
use Rattle.std.proofs.lemmas.List.Folds.{list_any_at}
use Rattle.stores.specs.Matrices.{is_name}
use Rattle.protection.proofs.Requests.{clear_of}
use Rattle.protection.specs.Commands.{name_at}
use Rattle.protection.specs.Excerpts.{Distinct}
use Rattle.protection.specs.Requests.{first_parameter}
use Rattle.changes.specs.Names.{Named, repeats}

pub all_named : (names : List ℕ) (n : ℕ) → length names ≡ n → first_parameter n (λ i. not (is_name (name_at names i))) ≡ None → Named names
all_named names n long e = λ i lt. ltb-true (name_at names i) 64 (not-false (is_name (name_at names i)) (clear_of (λ i. not (is_name (name_at names i))) n e i (omega arith)))

repeated : (names : List ℕ) (i j : ℕ) → i < j → j < length names → name_at names i ≡ name_at names j → repeats names j ≡ true
repeated names i j lt inside same =
    let at : get_or (take j names) i 64 ≡ name_at names j = get_or-take j names i 64 lt ∙ same in
    list_any_at (λ m. m == name_at names j) (take j names) i 64 (rw length-take (omega arith)) (rw at (eq-eqb (name_at names j) (name_at names j) refl))

pub all_distinct : (names : List ℕ) (n : ℕ) → length names ≡ n → first_parameter n (repeats names) ≡ None → Distinct names
all_distinct names n long e = λ i j hi hj same.
    let once : (i j : ℕ) → i < j → j < length names → name_at names i ≡ name_at names j → ⊥ = λ i j lt inside same. true≢false (sym (repeated names i j lt inside same) ∙ clear_of (repeats names) n e j (omega arith)) in
    ⊎_elim
    (λ (up : i < j). absurd (once i j up hj same))
    (λ (rest : j ≤ i).
    ⊎_elim
    (λ (down : j < i). absurd (once j i down hi (sym same)))
    (λ (equal : i ≤ j). omega arith)
    (cases_lt j i))
    (cases_lt i j)
