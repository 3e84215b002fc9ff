-- What steps make of a cell only grows with what was in it.
use Rattle.std.proofs.Common.{◌≡◌, ℕ, Bool, true, false, cond, not, ◌&&◌, ◌||◌, eqb, ltb, List, [], ◌∷◌, sym, refl, ◌∙◌}
use Rattle.model.specs.Masks.{has, with_right, without_right, Within}
use Rattle.model.proofs.Rights.{with_has, without_has}
use Rattle.scheme.specs.declared.step.Step.{Step}
use Rattle.scheme.specs.declared.step.Step.TheVariants.{Enter, Delete, Set, Create, Destroy}
use Rattle.protection.specs.Places.{cell_after, cell_after_all}

or_grows : (a b more : Bool) → (a ≡ true → b ≡ true) → (a || more) ≡ true → (b || more) ≡ true
or_grows true true more up h = refl
or_grows true false more up h = absurd (let is : false ≡ true = up refl in cc)
or_grows false true more up h = refl
or_grows false false more up h = h

and_grows : (a b more : Bool) → (a ≡ true → b ≡ true) → (a && more) ≡ true → (b && more) ≡ true
and_grows true true more up h = h
and_grows true false more up h = absurd (let is : false ≡ true = up refl in cc)
and_grows false b more up h = cc

with_grows : (r m n : ℕ) → Within m n → Within (with_right m r) (with_right n r)
with_grows r m n within q h =
    with_has n r q ∙ or_grows (has m q) (has n q) (eqb q r && ltb r 16) (within q) (sym (with_has m r q) ∙ h)

without_grows : (r m n : ℕ) → Within m n → Within (without_right m r) (without_right n r)
without_grows r m n within q h =
    without_has n r q ∙ and_grows (has m q) (has n q) (not (eqb q r)) (within q) (sym (without_has m r q) ∙ h)

either : (here : Bool) (m n k l : ℕ) → Within m n → Within k l → Within (cond here m k) (cond here n l)
either true m n k l first second = first
either false m n k l first second = second

step_grows : (s : Step) (a b m n : ℕ) → Within m n → Within (cell_after s a b m) (cell_after s a b n)
step_grows (Enter r i j) a b m n within = either (eqb a i && eqb b j) (with_right m r) (with_right n r) m n (with_grows r m n within) within
step_grows (Delete r i j) a b m n within = either (eqb a i && eqb b j) (without_right m r) (without_right n r) m n (without_grows r m n within) within
step_grows (Set i k v) a b m n within = within
step_grows (Create i) a b m n within = either (eqb a i || eqb b i) 0 0 m n (λ q h. h) within
step_grows (Destroy i) a b m n within = either (eqb a i || eqb b i) 0 0 m n (λ q h. h) within

pub grows : (steps : List Step) (a b m n : ℕ) → Within m n → Within (cell_after_all steps a b m) (cell_after_all steps a b n)
grows [] a b m n within = within
grows (s ∷ steps) a b m n within = grows steps a b (cell_after s a b m) (cell_after s a b n) (step_grows s a b m n within)
