-- What the steps of a command make of what is not its parameters'.
use Rattle.std.proofs.Common.{◌≡◌, ℕ, ◌<◌, ◌≤◌, ◌⊎◌, Bool, true, false, cond, ◌&&◌, ◌||◌, eqb, ltb, Option, List, [], ◌∷◌, refl, ap, ◌∙◌, ⊎_elim, arith}
use Rattle.std.proofs.Math.Bool.{or-false}
use Rattle.std.specs.List.{list_all, list_any}
use Rattle.std.proofs.lemmas.Bool.{and_parts, and_left, and_right, ne_eqb, ltb-true}
use Rattle.model.specs.declared.stamp.Stamp.{Stamp}
use Rattle.model.specs.Masks.{with_right, without_right}
use Rattle.scheme.specs.declared.step.Step.{Step}
use Rattle.scheme.specs.declared.step.Step.TheVariants.{Enter, Delete, Set, Create, Destroy}
use Rattle.scheme.specs.Steps.{step_shaped, creates_in_step, destroys_in_step}
use Rattle.protection.specs.Excerpts.{renewed}
use Rattle.protection.specs.Places.{cell_after, entry_after, cell_after_all, entry_after_all}
use Rattle.protection.proofs.Places.{Shaped, row_named, column_named, set_named}

-- a number from n on is no parameter of n
beyond : (n i a : ℕ) → i < n → n ≤ a → eqb a i ≡ false
beyond n i a lt past = ne_eqb a i (λ e. omega arith)

outside_written : (n r i j a b x m : ℕ) → (n ≤ a) ⊎ (n ≤ b) → (ltb r 16 && (ltb i n && ltb j n)) ≡ true → cond (eqb a i && eqb b j) x m ≡ m
outside_written n r i j a b x m out h =
    ⊎_elim
    (λ (row : n ≤ a). rw (and_left (eqb a i) (eqb b j) (beyond n i a (row_named n r i j h) row)) refl)
    (λ (column : n ≤ b). rw (and_right (eqb a i) (eqb b j) (beyond n j b (column_named n r i j h) column)) refl)
    out

-- A step empties a cell with an end outside where it creates or destroys the other end, and else leaves it.
pub outside_step : (n : ℕ) (s : Step) (a b m : ℕ) → (n ≤ a) ⊎ (n ≤ b) → step_shaped n s ≡ true → cell_after s a b m ≡ cond ((creates_in_step a s || destroys_in_step a s) || (creates_in_step b s || destroys_in_step b s)) 0 m
outside_step n (Enter r i j) a b m out h = outside_written n r i j a b (with_right m r) m out h
outside_step n (Delete r i j) a b m out h = outside_written n r i j a b (without_right m r) m out h
outside_step n (Set i k v) a b m out h = refl
outside_step n (Create i) a b m out h = rw (or-false (eqb a i), or-false (eqb b i)) refl
outside_step n (Destroy i) a b m out h = refl

pub emptied : (b : Bool) → ◌≡◌ {A = ℕ} (cond b 0 0) 0
emptied true = refl
emptied false = refl

emptied_twice : (sa sb ra rb : Bool) (m : ℕ) → cond (ra || rb) 0 (cond (sa || sb) 0 m) ≡ cond ((sa || ra) || (sb || rb)) 0 m
emptied_twice true sb ra rb m = emptied (ra || rb)
emptied_twice false true true rb m = refl
emptied_twice false true false rb m = emptied rb
emptied_twice false false ra rb m = refl

-- The same over steps in order.
pub outside_run : (n : ℕ) (steps : List Step) (a b m : ℕ) → (n ≤ a) ⊎ (n ≤ b) → Shaped n steps → cell_after_all steps a b m ≡ cond (renewed steps a || renewed steps b) 0 m
outside_run n [] a b m out h = refl
outside_run n (s ∷ steps) a b m out h =
    let parts = and_parts (step_shaped n s) (list_all (step_shaped n) steps) h in
    outside_run n steps a b (cell_after s a b m) out parts.1
    ∙ ap (cond (renewed steps a || renewed steps b) 0) (outside_step n s a b m out parts.0)
    ∙ emptied_twice (creates_in_step a s || destroys_in_step a s) (creates_in_step b s || destroys_in_step b s) (renewed steps a) (renewed steps b) m

renewed_step : (n : ℕ) (s : Step) (a : ℕ) → n ≤ a → step_shaped n s ≡ true → (creates_in_step a s || destroys_in_step a s) ≡ false
renewed_step n (Enter r i j) a past h = refl
renewed_step n (Delete r i j) a past h = refl
renewed_step n (Set i k v) a past h = refl
renewed_step n (Create i) a past h = rw (beyond n i a (ltb-true i n h) past) refl
renewed_step n (Destroy i) a past h = beyond n i a (ltb-true i n h) past

-- only parameters are created or destroyed
pub none_renewed : (n : ℕ) (steps : List Step) (a : ℕ) → n ≤ a → Shaped n steps → renewed steps a ≡ false
none_renewed n [] a past h = refl
none_renewed n (s ∷ steps) a past h =
    let parts = and_parts (step_shaped n s) (list_all (step_shaped n) steps) h in
    rw (renewed_step n s a past parts.0) (none_renewed n steps a past parts.1)

pub entry_step : (cards n : ℕ) (s : Step) (a : ℕ) (e : Option Stamp) → n ≤ a → step_shaped n s ≡ true → entry_after cards s a e ≡ e
entry_step cards n (Enter r i j) a e past h = refl
entry_step cards n (Delete r i j) a e past h = refl
entry_step cards n (Set i k v) a e past h = rw (beyond n i a (set_named n i k h) past) refl
entry_step cards n (Create i) a e past h = rw (beyond n i a (ltb-true i n h) past) refl
entry_step cards n (Destroy i) a e past h = rw (beyond n i a (ltb-true i n h) past) refl

-- the entry of what is no parameter stays
pub entry_kept : (cards n : ℕ) (steps : List Step) (a : ℕ) (e : Option Stamp) → n ≤ a → Shaped n steps → entry_after_all cards steps a e ≡ e
entry_kept cards n [] a e past h = refl
entry_kept cards n (s ∷ steps) a e past h =
    let parts = and_parts (step_shaped n s) (list_all (step_shaped n) steps) h in
    ap (entry_after_all cards steps a) (entry_step cards n s a e past parts.0)
    ∙ entry_kept cards n steps a e past parts.1

either_or : (a b c d : Bool) → ((a || b) || (c || d)) ≡ ((a || c) || (b || d))
either_or true b c d = refl
either_or false true true d = refl
either_or false true false d = refl
either_or false false c d = refl

-- one of them is created, or one of them is destroyed
pub created_or_destroyed : (steps : List Step) (i : ℕ) → (list_any (creates_in_step i) steps || list_any (destroys_in_step i) steps) ≡ renewed steps i
created_or_destroyed [] i = refl
created_or_destroyed (s ∷ steps) i =
    either_or (creates_in_step i s) (list_any (creates_in_step i) steps) (destroys_in_step i s) (list_any (destroys_in_step i) steps)
    ∙ ap (λ b. (creates_in_step i s || destroys_in_step i s) || b) (created_or_destroyed steps i)
