-- What a change makes of one cell.
use Rattle.std.proofs.Common.{◌≡◌, ℕ, ◌≤◌, Bool, true, false, cond, ◌⊎◌, inl, inr, List, Some, None, Option, unwrap_or, sym, refl, ⊎_elim, arith}
use Rattle.std.proofs.lemmas.Bool.{eqb-true, cond_both}
use Rattle.std.proofs.lemmas.List.Quantifiers.{position-Some}
use Rattle.std.specs.Prelude.{◌==◌}
use Rattle.stores.specs.Matrices.{Matrix}
use Rattle.model.specs.Bounded.{listed}
use Rattle.protection.specs.Commands.{name_at}
use Rattle.protection.specs.Excerpts.{parameter_of, cell_back}
use Rattle.protection.specs.Tables.{cells_of}
use Rattle.changes.specs.declared.change.Change.{Change}
use Rattle.changes.specs.Changes.{is_renewed, changed}
use Rattle.changes.specs.Making.{Done}
use Rattle.changes.specs.Names.{Named}
use Rattle.changes.specs.Puts.{put_between, put_in}

emptied_by : (renewed : Bool) (old : ℕ) → cond renewed 0 old ≡ unwrap_or (cond renewed (Some 0) None) old
emptied_by true old = refl
emptied_by false old = refl

back_by : (renewed : ℕ → Bool) (back : Matrix) (row column : Option ℕ) (old : ℕ) → cell_back renewed back row column old ≡ unwrap_or (put_between renewed back row column) old
back_by renewed back (Some i) (Some j) old = refl
back_by renewed back (Some i) None old = emptied_by (renewed i) old
back_by renewed back None (Some j) old = emptied_by (renewed j) old
back_by renewed back None None old = refl

-- A cell is to be what is put into it; where nothing is, it stays as it is.
pub changed_at : (c : Change) (f : Matrix) (s o : ℕ) → changed c f s o ≡ unwrap_or (put_in c s o) (f s o)
changed_at c f s o =
    let names = listed c.names.items in
    back_by (is_renewed c.renewed) (cells_of c.cells) (parameter_of names s) (parameter_of names o) (f s o)

-- Where a row or a column is no name, it is no parameter's either.
no_parameter : (names : List ℕ) → Named names → (n : ℕ) → 64 ≤ n → (p : Option ℕ) → parameter_of names n ≡ p → p ≡ None
no_parameter names named n large None e = refl
no_parameter names named n large (Some i) e =
    let here = position-Some (λ m. m == n) names i 64 e in
    let same : name_at names i ≡ n = eqb-true (name_at names i) n here.1 in
    absurd (omega (arith, named i here.0))

outside_by : (renewed : ℕ → Bool) (back : Matrix) (row column : Option ℕ) (old : ℕ) → (row ≡ None) ⊎ (column ≡ None) → old ≡ 0 → cell_back renewed back row column old ≡ old
outside_by renewed back (Some i) (Some j) old e none = absurd (⊎_elim (λ (l : Some i ≡ None). cc) (λ (r : Some j ≡ None). cc) e)
outside_by renewed back (Some i) None old e none = cond_both (renewed i) 0 old (λ m. m ≡ old) (λ _. sym none) (λ _. refl)
outside_by renewed back None (Some j) old e none = cond_both (renewed j) 0 old (λ m. m ≡ old) (λ _. sym none) (λ _. refl)
outside_by renewed back None None old e none = refl

pub outside : (c : Change) (f : Matrix) (s o : ℕ) → (64 ≤ s) ⊎ (64 ≤ o) → f s o ≡ 0 → Done c f s o
outside c f s o large none =
    let names = listed c.names.items in
    let none_for : (n : ℕ) → 64 ≤ n → parameter_of names n ≡ None = λ n h. no_parameter names c.names.named n h (parameter_of names n) refl in
    outside_by (is_renewed c.renewed) (cells_of c.cells) (parameter_of names s) (parameter_of names o) (f s o)
    (⊎_elim (λ (l : 64 ≤ s). inl (none_for s l)) (λ (r : 64 ≤ o). inr (none_for o r)) large)
    none
