-- Steps leave untouched what none of them names.
use Rattle.std.proofs.Common.{cond, ◌≡◌, ℕ, Bool, true, false, ◌||◌, List, [], ◌∷◌, refl, ◌∙◌}
use Rattle.std.specs.List.{list_any}
use Rattle.scheme.specs.declared.step.Step.{Step}
use Rattle.scheme.specs.declared.step.Step.TheVariants.{Enter, Delete, Set, Create, Destroy}
use Rattle.protection.specs.Commands.{step, run}
use Rattle.protection.specs.Frames.{names_entry, names_cell, Untouched}
use Rattle.protection.specs.States.{Protection}

-- neither of two is so
neither : (a b : Bool) → (a || b) ≡ false → (a ≡ false) × (b ≡ false)
neither false b h = (refl, h)
neither true b h = absurd cc

-- what is kept where it is not named
unless_named : {X : Type 0} (named : Bool) (new old : X) → (named ≡ false → new ≡ old) → new ≡ cond named new old
unless_named true new old kept = refl
unless_named false new old kept = kept refl

pub all_untouched : (name : ℕ → ℕ) (steps : List Step) (p : Protection) → Untouched name steps p p
all_untouched name steps p = record {
  entries = λ n. unless_named _ _ _ (λ h. refl);
  cells = λ a b. unless_named _ _ _ (λ h. refl);
}

module _ (cards : ℕ) (name : ℕ → ℕ) where
  entry_kept : (n : ℕ) (s : Step) (p : Protection) → names_entry name n s ≡ false → (step cards name p s).entry n ≡ p.entry n
  entry_kept n (Enter r i j) p h = refl
  entry_kept n (Delete r i j) p h = refl
  entry_kept n (Set i k v) p h = rw h refl
  entry_kept n (Create i) p h = rw h refl
  entry_kept n (Destroy i) p h = rw h refl

  cell_kept : (a b : ℕ) (s : Step) (p : Protection) → names_cell name a b s ≡ false → (step cards name p s).cells a b ≡ p.cells a b
  cell_kept a b (Enter r i j) p h = rw h refl
  cell_kept a b (Delete r i j) p h = rw h refl
  cell_kept a b (Set i k v) p h = refl
  cell_kept a b (Create i) p h = rw h refl
  cell_kept a b (Destroy i) p h = rw h refl

  run_entry_kept : (n : ℕ) (steps : List Step) (p : Protection) → list_any (names_entry name n) steps ≡ false → (run cards name steps p).entry n ≡ p.entry n
  run_entry_kept n [] p h = refl
  run_entry_kept n (s ∷ steps) p h =
      let parts = neither (names_entry name n s) (list_any (names_entry name n) steps) h in
      run_entry_kept n steps (step cards name p s) parts.1 ∙ entry_kept n s p parts.0

  run_cell_kept : (a b : ℕ) (steps : List Step) (p : Protection) → list_any (names_cell name a b) steps ≡ false → (run cards name steps p).cells a b ≡ p.cells a b
  run_cell_kept a b [] p h = refl
  run_cell_kept a b (s ∷ steps) p h =
      let parts = neither (names_cell name a b s) (list_any (names_cell name a b) steps) h in
      run_cell_kept a b steps (step cards name p s) parts.1 ∙ cell_kept a b s p parts.0

  pub run_untouched : (steps : List Step) (p : Protection) → Untouched name steps p (run cards name steps p)
  run_untouched steps p = record {
    entries = λ n. unless_named _ _ _ (run_entry_kept n steps p);
    cells = λ a b. unless_named _ _ _ (run_cell_kept a b steps p);
  }
