-- The steps of a command, one after the other, leave a sound state sound.
use Rattle.std.proofs.Common.{◌≡◌, ℕ, ◌<◌, Bool, true, false, cond, not, ◌&&◌, eqb, ltb, List, [], ◌∷◌, ◌++◌, sym, refl, ◌∙◌}
use Rattle.std.specs.List.{list_any}
use Rattle.std.proofs.lemmas.Bool.{and_parts, or_parts, or_left, or_right, or_from, eq-eqb, ltb-true, not-true, not-false}
use Rattle.model.specs.Masks.{has}
use Rattle.scheme.specs.declared.step.Step.{Step}
use Rattle.scheme.specs.declared.step.Step.TheVariants.{Enter, Delete, Set, Create, Destroy}
use Rattle.scheme.specs.declared.test.Test.{Test}
use Rattle.scheme.specs.Commands.{Command, step_fits}
use Rattle.model.specs.Lists.{each_after}
use Rattle.scheme.specs.Steps.{names_in_step, creates_in_step, destroys_in_step, step_shaped}
use Rattle.protection.specs.Commands.{name_at, declared_kind, step, run, seen}
use Rattle.protection.specs.Requests.{standing_wrong, card_wrong}
use Rattle.protection.specs.Sound.{Sound, KeepsSound}
use Rattle.protection.specs.States.{Protection, stands, is_subject}
use Rattle.protection.proofs.Placing.{any_push, step_rules, first_fits, not_created_after}
use Rattle.protection.proofs.Requests.{clear_of}
use Rattle.protection.proofs.Serving.{serves, serves_row, serves_column, serves_after}
use Rattle.protection.proofs.Sound.{sound_enter, sound_delete, sound_set, sound_create, sound_destroy}

module _ (cards n : ℕ) (tests : List Test) (name : ℕ → ℕ) (distinct : (i j : ℕ) → i < n → j < n → name i ≡ name j → i ≡ j) where
  -- what no step before has destroyed, and none from here on creates, serves its parameter
  abbrev Serving : (before rest : List Step) → Protection → Type 0
  Serving before rest p = (i : ℕ) → i < n → list_any (destroys_in_step i) before ≡ false → list_any (creates_in_step i) rest ≡ false → serves cards i (p.entry (name i)) ≡ true

  serving_after : (before : List Step) (s : Step) (rest : List Step) (p : Protection) → step_shaped n s ≡ true → Serving before (s ∷ rest) p → Serving (before ++ s ∷ []) rest (step cards name p s)
  serving_after before s rest p shaped serving i lt kept later =
      let parts = or_parts (list_any (destroys_in_step i) before) (destroys_in_step i s) (sym (any_push (destroys_in_step i) before s) ∙ kept) in
      serves_after cards n name distinct s i p shaped lt parts.1
      (λ now. serving i lt parts.0 (or_from (creates_in_step i s) (list_any (creates_in_step i) rest) now later))

  -- what a step names, and does not create, serves when the step is taken
  serves_named : (before : List Step) (s : Step) (rest : List Step) (p : Protection) (i : ℕ) → each_after (step_fits n cards tests) before (s ∷ rest) ≡ true → Serving before (s ∷ rest) p → ltb i n ≡ true → names_in_step i s ≡ true → creates_in_step i s ≡ false → not (list_any (destroys_in_step i) before) ≡ true → serves cards i (p.entry (name i)) ≡ true
  serves_named before s rest p i fits serving inside named now kept =
      serving i (ltb-true i n inside) (not-true (list_any (destroys_in_step i) before) kept)
      (or_from (creates_in_step i s) (list_any (creates_in_step i) rest) now (not_created_after cards n tests i before s rest fits named))

  sound_after : (before : List Step) (s : Step) (rest : List Step) (p : Protection) → each_after (step_fits n cards tests) before (s ∷ rest) ≡ true → Serving before (s ∷ rest) p → Sound p → Sound (step cards name p s)
  sound_after before (Enter r i j) rest p fits serving sound =
      let enters = Enter r i j in
      let rules = step_rules cards n tests before enters (first_fits cards n tests before enters rest fits).0 in
      let inside = and_parts (ltb i n) (ltb j n) (and_parts (ltb r 16) (ltb i n && ltb j n) rules.0).1 in
      let kept = and_parts (not (list_any (destroys_in_step i) before)) (not (list_any (destroys_in_step j) before)) rules.1.1 in
      let row = serves_named before enters rest p i fits serving inside.0 (or_left (eqb i i) (eqb i j) (eq-eqb i i refl)) refl kept.0 in
      let column = serves_named before enters rest p j fits serving inside.1 (or_right (eqb j i) (eqb j j) (eq-eqb j j refl)) refl kept.1 in
      sound_enter r (name i) (name j) p (serves_row cards i (p.entry (name i)) rules.1.0 row) (serves_column cards j (p.entry (name j)) column) sound
  sound_after before (Delete r i j) rest p fits serving sound = sound_delete r (name i) (name j) p sound
  sound_after before (Set i k v) rest p fits serving sound = sound_set (name i) k v p sound
  sound_after before (Create i) rest p fits serving sound = sound_create (declared_kind cards i) (name i) p sound
  sound_after before (Destroy i) rest p fits serving sound = sound_destroy (name i) p sound

  sound_run : (before rest : List Step) (p : Protection) → each_after (step_fits n cards tests) before rest ≡ true → Serving before rest p → Sound p → Sound (run cards name rest p)
  sound_run before [] p fits serving sound = sound
  sound_run before (s ∷ rest) p fits serving sound =
      let first = first_fits cards n tests before s rest fits in
      sound_run (before ++ s ∷ []) rest (step cards name p s) first.1
      (serving_after before s rest p (step_rules cards n tests before s first.0).0 serving)
      (sound_after before s rest p fits serving sound)

-- what is not created serves from the start
at_first : (declared subject there : Bool) → not there ≡ false → (declared && not subject) ≡ false → cond declared subject there ≡ true
at_first true subject there standing card = not-false subject card
at_first false subject there standing card = not-false there standing

pub keeps_sound : (m : Command) → KeepsSound m
keeps_sound m names p fits sized distinct standing cards sound =
    sound_run m.cards m.params m.tests (name_at names)
    (λ i j hi hj same. distinct i j (rw sized hi) (rw sized hj) same)
    [] m.steps p fits
    (λ i lt kept uncreated.
    at_first (has m.cards i) (is_subject (p.entry (name_at names i))) (stands p (name_at names i))
    (rw uncreated at (clear_of (standing_wrong m (seen (name_at names) p)) m.params standing i lt))
    (rw uncreated at (clear_of (card_wrong m (seen (name_at names) p)) m.params cards i lt)))
    sound
