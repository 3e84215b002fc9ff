-- What it takes to say all that a certificate says, by the numbers of its stamps.
use Rattle.std.proofs.Common.{◌≡◌, ℕ, Bool, true, false, ◌&&◌, eqb, ltb, cond, ⊎_elim, Some, None, Option, slice_get, sym, refl, subst, ◌∙◌}
use Rattle.std.proofs.lemmas.Bool.{and_parts, or_cases, both_ways, eqb-true}
use Rattle.model.specs.declared.stamp.Stamp.{Stamp}
use Rattle.model.specs.Kinds.{subject_kind}
use Rattle.model.specs.Masks.{has, with_right}
use Rattle.model.proofs.Rights.{holds_nothing, with_has}
use Rattle.stores.specs.Matrices.{Matrix, written}
use Rattle.certificates.specs.Certificates.{Certificate, lists, allows, number_of, at_numbers}
use Rattle.certificates.proofs.Listed.{there_listed}
use Rattle.certificates.proofs.Stamps.{found_there}
use Rattle.maker.specs.Comparing.{Above}

module _ (c d : Certificate) where
  -- d allows the right between the stamps of the two numbers
  abbrev pub AllowsAt : (m n right : ℕ) → Type 0
  AllowsAt m n right = (u v : Stamp) → slice_get c.stamps m ≡ Some u → slice_get c.stamps n ≡ Some v → has (allows d u v) right ≡ true

  module _ (rights : (m n right : ℕ) → has (c.masks m n) right ≡ true → AllowsAt m n right) (u v : Stamp) (right : ℕ) where
    allowed : (card : Bool) (m n : Option ℕ) → number_of c u ≡ m → number_of c v ≡ n → has (cond card (at_numbers c.masks m n) 0) right ≡ true → has (allows d u v) right ≡ true
    allowed false m n row column held = absurd (both_ways (has 0 right) (holds_nothing right) held)
    allowed true None n row column held = absurd (both_ways (has 0 right) (holds_nothing right) held)
    allowed true (Some m) None row column held = absurd (both_ways (has 0 right) (holds_nothing right) held)
    allowed true (Some m) (Some n) row column held = rights m n right held u v (found_there c.stamps u m row) (found_there c.stamps v n column)

  pub above_by : ((n : ℕ) (s : Stamp) → slice_get c.stamps n ≡ Some s → lists d s ≡ true) → ((m n right : ℕ) → has (c.masks m n) right ≡ true → AllowsAt m n right) → Above d c
  above_by stamps rights = record {
    stamps = λ s listed. let there = there_listed c s listed in stamps there.0 s there.1;
    rights = λ u v right. allowed rights u v right (subject_kind u.kind) (number_of c u) (number_of c v) refl refl;
  }

-- a mask of one right holds no other
one_right : (right q : ℕ) → has (with_right 0 right) q ≡ true → q ≡ right
one_right right q held =
    ⊎_elim
    (λ (none : has 0 q ≡ true). absurd (both_ways (has 0 q) (holds_nothing q) none))
    (λ (is : (eqb q right && ltb right 16) ≡ true). eqb-true q right (and_parts (eqb q right) (ltb right 16) is).0)
    (or_cases (has 0 q) (eqb q right && ltb right 16) (sym (with_has 0 right q) ∙ held))

-- where one cell is written with one right, whatever is held in a cell is so
module _ (f : Matrix) (s o r : ℕ) (P : (a b right : ℕ) → Type 0) (here : P s o r) (others : (a b right : ℕ) → has (f a b) right ≡ true → P a b right) where
  by_place : (a b right : ℕ) (at : Bool) → (eqb a s && eqb b o) ≡ at → has (cond at (with_right 0 r) (f a b)) right ≡ true → P a b right
  by_place a b right false at held = others a b right held
  by_place a b right true at held =
      let ends = and_parts (eqb a s) (eqb b o) at in
      subst (λ x. P x b right) (sym (eqb-true a s ends.0))
      (subst (λ y. P s y right) (sym (eqb-true b o ends.1))
      (subst (P s o) (sym (one_right r right held)) here))

  pub held_written : (a b right : ℕ) → has (written f s o (with_right 0 r) a b) right ≡ true → P a b right
  held_written a b right = by_place a b right (eqb a s && eqb b o) refl
