-- Which entries may stand for a parameter, and how the steps of a command leave them so.
use Rattle.std.proofs.Common.{◌≡◌, ℕ, ◌<◌, Bool, true, false, cond, eqb, Some, None, Option, is_some, refl, ◌∙◌, ⊎_elim}
use Rattle.std.specs.Option.{option_map}
use Rattle.std.proofs.lemmas.Bool.{cases_eq, cases_Bool, eq-eqb, ne_eqb, ltb-true, both_ways}
use Rattle.model.specs.declared.stamp.Stamp.{Stamp}
use Rattle.model.specs.Masks.{has}
use Rattle.scheme.specs.declared.step.Step.{Step}
use Rattle.scheme.specs.declared.step.Step.TheVariants.{Enter, Delete, Set, Create, Destroy}
use Rattle.scheme.specs.Steps.{creates_in_step, destroys_in_step, step_shaped}
use Rattle.protection.specs.Commands.{declared_kind, step}
use Rattle.protection.specs.Operations.{null_stamp, with_attribute}
use Rattle.protection.specs.States.{Protection, is_subject}
use Rattle.protection.proofs.Sound.{subject_stands, set_unseen}

-- There is an entry, and it is a subject if parameter i is declared a card.
abbrev pub serves : (cards i : ℕ) → Option Stamp → Bool
serves cards i entry = cond (has cards i) (is_subject entry) (is_some entry)

pub serves_row : (cards i : ℕ) (entry : Option Stamp) → has cards i ≡ true → serves cards i entry ≡ true → is_subject entry ≡ true
serves_row cards i entry declared h = rw declared at h

pub serves_column : (cards i : ℕ) (entry : Option Stamp) → serves cards i entry ≡ true → is_some entry ≡ true
serves_column cards i entry h =
    ⊎_elim
    (λ (declared : has cards i ≡ true). subject_stands entry (rw declared at h))
    (λ (undeclared : has cards i ≡ false). rw undeclared at h)
    (cases_Bool (has cards i))

created_serves : (cards i : ℕ) → serves cards i (Some (null_stamp (declared_kind cards i))) ≡ true
created_serves cards i =
    ⊎_elim
    (λ (declared : has cards i ≡ true). rw declared refl)
    (λ (undeclared : has cards i ≡ false). rw undeclared refl)
    (cases_Bool (has cards i))

unseen_serving : (cards i k v : ℕ) (entry : Option Stamp) → serves cards i (option_map (with_attribute k v) entry) ≡ serves cards i entry
unseen_serving cards i k v None = refl
unseen_serving cards i k v (Some stamp) = refl

module _ (cards n : ℕ) (name : ℕ → ℕ) (distinct : (i j : ℕ) → i < n → j < n → name i ≡ name j → i ≡ j) where
  other_name : (i j : ℕ) → i < n → j < n → eqb i j ≡ false → eqb (name i) (name j) ≡ false
  other_name i j hi hj other = ne_eqb (name i) (name j) (λ same. both_ways (eqb i j) other (eq-eqb i j (distinct i j hi hj same)))

  -- After a step that does not destroy parameter i, what stands for it serves, if it did before or is created by the step.
  pub serves_after : (s : Step) (i : ℕ) (p : Protection) → step_shaped n s ≡ true → i < n → destroys_in_step i s ≡ false → (creates_in_step i s ≡ false → serves cards i (p.entry (name i)) ≡ true) → serves cards i ((step cards name p s).entry (name i)) ≡ true
  serves_after (Enter r a b) i p shaped lt kept serving = serving refl
  serves_after (Delete r a b) i p shaped lt kept serving = serving refl
  serves_after (Set a k v) i p shaped lt kept serving = set_unseen (serves cards i) (unseen_serving cards i) (name a) k v p (name i) ∙ serving refl
  serves_after (Create a) i p shaped lt kept serving =
      ⊎_elim
      (λ (here : i ≡ a). rw (here, eq-eqb (name a) (name a) refl) (created_serves cards a))
      (λ (apart : i ≡ a → ⊥).
      let other = ne_eqb i a apart in
      rw (other_name i a lt (ltb-true a n shaped) other) (serving other))
      (cases_eq i a)
  serves_after (Destroy a) i p shaped lt kept serving = rw (other_name i a lt (ltb-true a n shaped) kept) (serving refl)
