-- What the rules on the order of steps give: a parameter that a step names is not created later.
use Rattle.std.proofs.Common.{◌≡◌, ℕ, Bool, true, false, not, ◌&&◌, ◌||◌, List, [], ◌∷◌, ◌++◌, refl, ap, ◌∙◌}
use Rattle.std.specs.List.{list_any}
use Rattle.std.proofs.Math.Bool.{or-false}
use Rattle.std.proofs.lemmas.Bool.{and_parts, or_left, or_right, or_from, ne_eqb, not-true, both_ways}
use Rattle.std.proofs.lemmas.List.Folds.{list_any-append}
use Rattle.scheme.specs.declared.step.Step.{Step}
use Rattle.scheme.specs.declared.step.Step.TheVariants.{Enter, Delete, Set, Create, Destroy}
use Rattle.scheme.specs.declared.test.Test.{Test}
use Rattle.scheme.specs.Commands.{step_fits}
use Rattle.model.specs.Lists.{each_after}
use Rattle.scheme.specs.Steps.{names_in_step, creates_in_step, step_shaped, step_row_declared, well_placed}
use Rattle.scheme.specs.Tests.{names_in_test}

pub any_push : (f : Step → Bool) (before : List Step) (s : Step) → list_any f (before ++ s ∷ []) ≡ (list_any f before || f s)
any_push f before s = list_any-append f before (s ∷ []) ∙ ap (λ b. list_any f before || b) (or-false (f s))

module _ (cards n : ℕ) (tests : List Test) where
  -- the rules on a step, one by one
  pub step_rules : (before : List Step) (s : Step) → step_fits n cards tests before s ≡ true → (step_shaped n s ≡ true) × ((step_row_declared cards s ≡ true) × (well_placed tests before s ≡ true))
  step_rules before s fits =
      let rules = and_parts (step_shaped n s) (step_row_declared cards s && well_placed tests before s) fits in
      (rules.0, and_parts (step_row_declared cards s) (well_placed tests before s) rules.1)

  -- the rules on a step, and those on the steps after it
  pub first_fits : (before : List Step) (s : Step) (rest : List Step) → each_after (step_fits n cards tests) before (s ∷ rest) ≡ true → (step_fits n cards tests before s ≡ true) × (each_after (step_fits n cards tests) (before ++ s ∷ []) rest ≡ true)
  first_fits before s rest fits = and_parts (step_fits n cards tests before s) (each_after (step_fits n cards tests) (before ++ s ∷ []) rest) fits

  creates_unnamed : (i : ℕ) (before : List Step) (s : Step) → well_placed tests before s ≡ true → list_any (names_in_step i) before ≡ true → creates_in_step i s ≡ false
  creates_unnamed i before (Enter r a b) placed named = refl
  creates_unnamed i before (Delete r a b) placed named = refl
  creates_unnamed i before (Set a k v) placed named = refl
  creates_unnamed i before (Create a) placed named =
      let unnamed = and_parts (not (list_any (names_in_test a) tests)) (not (list_any (names_in_step a) before)) placed in
      ne_eqb i a (λ same. both_ways (list_any (names_in_step a) before) (not-true (list_any (names_in_step a) before) unnamed.1) (rw same at named))
  creates_unnamed i before (Destroy a) placed named = refl

  not_created : (i : ℕ) (before rest : List Step) → each_after (step_fits n cards tests) before rest ≡ true → list_any (names_in_step i) before ≡ true → list_any (creates_in_step i) rest ≡ false
  not_created i before [] fits named = refl
  not_created i before (s ∷ rest) fits named =
      let first = first_fits before s rest fits in
      let now = creates_unnamed i before s (step_rules before s first.0).1.1 named in
      let still = any_push (names_in_step i) before s ∙ or_left (list_any (names_in_step i) before) (names_in_step i s) named in
      or_from (creates_in_step i s) (list_any (creates_in_step i) rest) now (not_created i (before ++ s ∷ []) rest first.1 still)

  pub not_created_after : (i : ℕ) (before : List Step) (s : Step) (rest : List Step) → each_after (step_fits n cards tests) before (s ∷ rest) ≡ true → names_in_step i s ≡ true → list_any (creates_in_step i) rest ≡ false
  not_created_after i before s rest fits named =
      not_created i (before ++ s ∷ []) rest (first_fits before s rest fits).1
      (any_push (names_in_step i) before s ∙ or_right (list_any (names_in_step i) before) (names_in_step i s) named)
