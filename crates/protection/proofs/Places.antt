-- What the steps of a command make of a state, place by place.
use Rattle.std.proofs.Common.{◌≡◌, ℕ, ◌<◌, true, cond, ◌&&◌, ◌||◌, eqb, ltb, List, [], ◌∷◌, refl, ap, ◌∙◌, ⊎_elim}
use Rattle.std.specs.List.{list_all}
use Rattle.std.specs.Option.{option_map}
use Rattle.std.proofs.lemmas.Bool.{cases_eq, and_parts, eq-eqb, ne_eqb, ltb-true}
use Rattle.model.specs.Masks.{with_right, without_right}
use Rattle.scheme.specs.declared.step.Step.{Step}
use Rattle.scheme.specs.declared.step.Step.TheVariants.{Enter, Delete, Set, Create, Destroy}
use Rattle.scheme.specs.Steps.{step_shaped}
use Rattle.stores.specs.Matrices.{Matrix, written}
use Rattle.protection.specs.Commands.{step, run}
use Rattle.protection.specs.Operations.{with_attribute, without}
use Rattle.protection.specs.Places.{cell_after, entry_after, cell_after_all, entry_after_all}
use Rattle.protection.specs.States.{Protection}

-- `name` gives the name of each parameter below n, and `place` the parameter of each name; a name that is no parameter's has a
-- place that is none.
abbrev pub Placed : (n : ℕ) → (name place : ℕ → ℕ) → Type 0
Placed n name place = (i x : ℕ) → i < n → eqb x (name i) ≡ eqb (place x) i

-- each step of a command of n parameters is shaped for them
abbrev pub Shaped : (n : ℕ) → List Step → Type 0
Shaped n steps = list_all (step_shaped n) steps ≡ true

-- a function at s, where it is only looked at in the case that s is x
at_itself : {X Y : Type 0} (g : X → Y) (f : ℕ → X) (other : Y) (s x : ℕ) → cond (eqb x s) (g (f s)) other ≡ cond (eqb x s) (g (f x)) other
at_itself g f other s x =
    ⊎_elim
    (λ (same : x ≡ s). rw same refl)
    (λ (apart : x ≡ s → ⊥). rw (ne_eqb x s apart) refl)
    (cases_eq x s)

-- the same at a cell
cell_itself : (g : ℕ → ℕ) (f : Matrix) (s o x y : ℕ) → written f s o (g (f s o)) x y ≡ cond (eqb x s && eqb y o) (g (f x y)) (f x y)
cell_itself g f s o x y =
    ⊎_elim
    (λ (row : x ≡ s). rw row (rw (eq-eqb s s refl) (at_itself g (f s) (f s y) o y)))
    (λ (apart : x ≡ s → ⊥). rw (ne_eqb x s apart) refl)
    (cases_eq x s)

-- what a shaped step names are parameters
pub row_named : (n r i j : ℕ) → (ltb r 16 && (ltb i n && ltb j n)) ≡ true → i < n
row_named n r i j h = ltb-true i n (and_parts (ltb i n) (ltb j n) (and_parts (ltb r 16) _ h).1).0

pub column_named : (n r i j : ℕ) → (ltb r 16 && (ltb i n && ltb j n)) ≡ true → j < n
column_named n r i j h = ltb-true j n (and_parts (ltb i n) (ltb j n) (and_parts (ltb r 16) _ h).1).1

pub set_named : (n i k : ℕ) → (ltb i n && ltb k 4) ≡ true → i < n
set_named n i k h = ltb-true i n (and_parts (ltb i n) (ltb k 4) h).0

module _ (cards n : ℕ) (name place : ℕ → ℕ) (placed : Placed n name place) where
  cell_written : (g : ℕ → ℕ) (f : Matrix) (r i j x y : ℕ) → (ltb r 16 && (ltb i n && ltb j n)) ≡ true → written f (name i) (name j) (g (f (name i) (name j))) x y ≡ cond (eqb (place x) i && eqb (place y) j) (g (f x y)) (f x y)
  cell_written g f r i j x y h =
      cell_itself g f (name i) (name j) x y
      ∙ rw (placed i x (row_named n r i j h), placed j y (column_named n r i j h)) refl

  cell_emptied : (f : Matrix) (i x y : ℕ) → ltb i n ≡ true → without f (name i) x y ≡ cond (eqb (place x) i || eqb (place y) i) 0 (f x y)
  cell_emptied f i x y h = rw (placed i x (ltb-true i n h), placed i y (ltb-true i n h)) refl

  pub step_cell : (p : Protection) (s : Step) (x y : ℕ) → step_shaped n s ≡ true → (step cards name p s).cells x y ≡ cell_after s (place x) (place y) (p.cells x y)
  step_cell p (Enter r i j) x y h = cell_written (λ m. with_right m r) p.cells r i j x y h
  step_cell p (Delete r i j) x y h = cell_written (λ m. without_right m r) p.cells r i j x y h
  step_cell p (Set i k v) x y h = refl
  step_cell p (Create i) x y h = cell_emptied p.cells i x y h
  step_cell p (Destroy i) x y h = cell_emptied p.cells i x y h

  pub step_entry : (p : Protection) (s : Step) (x : ℕ) → step_shaped n s ≡ true → (step cards name p s).entry x ≡ entry_after cards s (place x) (p.entry x)
  step_entry p (Enter r i j) x h = refl
  step_entry p (Delete r i j) x h = refl
  step_entry p (Set i k v) x h = at_itself (option_map (with_attribute k v)) p.entry (p.entry x) (name i) x ∙ rw (placed i x (set_named n i k h)) refl
  step_entry p (Create i) x h = rw (placed i x (ltb-true i n h)) refl
  step_entry p (Destroy i) x h = rw (placed i x (ltb-true i n h)) refl

  pub run_cell : (steps : List Step) (p : Protection) (x y : ℕ) → Shaped n steps → (run cards name steps p).cells x y ≡ cell_after_all steps (place x) (place y) (p.cells x y)
  run_cell [] p x y h = refl
  run_cell (s ∷ steps) p x y h =
      let parts = and_parts (step_shaped n s) (list_all (step_shaped n) steps) h in
      run_cell steps (step cards name p s) x y parts.1
      ∙ ap (cell_after_all steps (place x) (place y)) (step_cell p s x y parts.0)

  pub run_entry : (steps : List Step) (p : Protection) (x : ℕ) → Shaped n steps → (run cards name steps p).entry x ≡ entry_after_all cards steps (place x) (p.entry x)
  run_entry [] p x h = refl
  run_entry (s ∷ steps) p x h =
      let parts = and_parts (step_shaped n s) (list_all (step_shaped n) steps) h in
      run_entry steps (step cards name p s) x parts.1
      ∙ ap (entry_after_all cards steps (place x)) (step_entry p s x parts.0)
