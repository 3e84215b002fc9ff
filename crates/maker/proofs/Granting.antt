-- What a certificate allows when a mask is added to that of two listed stamps.
use Rattle.std.proofs.Common.{◌≡◌, ℕ, ◌⊎◌, true, cond, Some, None, Option, refl, sym, ap, ◌∙◌, subst, ⊎_elim, inl, inr}
use Rattle.std.proofs.lemmas.Bool.{cases_eq, or_cases, or_left, or_right}
use Rattle.std.proofs.lemmas.Option.{same_Some}
use lib.Bits.{bit_or}
use Rattle.model.specs.declared.stamp.Stamp.{Stamp}
use Rattle.model.specs.Kinds.{subject_kind}
use Rattle.model.specs.Masks.{has, Within}
use Rattle.model.proofs.Containing.{joined_has}
use Rattle.stores.proofs.Writing.{written_here, written_row, written_column}
use Rattle.certificates.specs.Certificates.{Certificate, with_mask, number_of, at_numbers, allows}
use Rattle.certificates.proofs.Stamps.{found_there}
use Rattle.maker.specs.declared.need.Need.TheVariants.{Rights}
use Rattle.maker.specs.Growing.{Grown}

-- two stamps that have one number are the same
same_number : (c : Certificate) (x u : Stamp) (m : ℕ) → number_of c x ≡ Some m → number_of c u ≡ Some m → x ≡ u
same_number c x u m here there = same_Some x u (sym (found_there c.stamps x m here) ∙ found_there c.stamps u m there)

module _ (c : Certificate) (u v : Stamp) (m n mask : ℕ) (row : number_of c u ≡ Some m) (column : number_of c v ≡ Some n) (card : subject_kind u.kind ≡ true) where
  abbrev more : ℕ
  more = bit_or (c.masks m n) mask

  abbrev after : Certificate
  after = with_mask c m n more

  pub allowed_before : allows c u v ≡ c.masks m n
  allowed_before = λ i. cond (card i) (at_numbers c.masks (row i) (column i)) 0

  allowed_after : allows after u v ≡ more
  allowed_after = (λ i. cond (card i) (at_numbers after.masks (row i) (column i)) 0) ∙ written_here c.masks m n more

  -- of any other two, what was allowed
  at_others : (o p : Option ℕ) → (at_numbers after.masks o p ≡ at_numbers c.masks o p) ⊎ ((o ≡ Some m) × (p ≡ Some n))
  at_others None p = inl refl
  at_others (Some a) None = inl refl
  at_others (Some a) (Some b) =
      ⊎_elim
      (λ (here : a ≡ m).
      ⊎_elim
      (λ (there : b ≡ n). inr (ap (λ k. Some k) here, ap (λ k. Some k) there))
      (λ (other : b ≡ n → ⊥). inl (written_column c.masks m n more a b other))
      (cases_eq b n))
      (λ (other : a ≡ m → ⊥). inl (written_row c.masks m n more a b other))
      (cases_eq a m)

  others : (x y : Stamp) → (allows after x y ≡ allows c x y) ⊎ ((x ≡ u) × (y ≡ v))
  others x y =
      ⊎_elim
      (λ (same : at_numbers after.masks (number_of c x) (number_of c y) ≡ at_numbers c.masks (number_of c x) (number_of c y)).
      inl (ap (λ k. cond (subject_kind x.kind) k 0) same))
      (λ (both : (number_of c x ≡ Some m) × (number_of c y ≡ Some n)).
      inr (same_number c x u m both.0 row, same_number c y v n both.1 column))
      (at_others (number_of c x) (number_of c y))

  -- what is so of these two is so of all, if it is of what was allowed
  of_all : (P : Stamp → Stamp → ℕ → Type 0) → P u v more → ((x y : Stamp) → P x y (allows c x y)) → (x y : Stamp) → P x y (allows after x y)
  of_all P here before x y =
      ⊎_elim
      (λ (same : allows after x y ≡ allows c x y). subst (P x y) (sym same) (before x y))
      (λ (these : (x ≡ u) × (y ≡ v)).
      subst (λ a. P a y (allows after a y)) (sym these.0)
      (subst (λ b. P u b (allows after u b)) (sym these.1) (subst (P u v) (sym allowed_after) here)))
      (others x y)

  pub grown_by_rights : Grown c (Rights u v mask) after
  grown_by_rights =
      record {
        grown = record {
          says_all = record {
            stamps = λ x listed. listed;
            rights =
                of_all (λ x y k. Within (allows c x y) k)
                (λ r h. joined_has (c.masks m n) mask r ∙ or_left (has (c.masks m n) r) (has mask r) (ap (λ k. has k r) (sym allowed_before) ∙ h))
                (λ x y r h. h);
          };
          least = λ d above so.
              record {
                stamps = above.stamps;
                rights =
                    of_all (λ x y k. Within k (allows d x y))
                    (λ r h.
                    ⊎_elim
                    (λ (old : has (c.masks m n) r ≡ true). above.rights u v r (ap (λ k. has k r) allowed_before ∙ old))
                    (λ (new : has mask r ≡ true). so r new)
                    (or_cases (has (c.masks m n) r) (has mask r) (sym (joined_has (c.masks m n) mask r) ∙ h)))
                    above.rights;
              };
        };
        complete = λ r h. ap (λ k. has k r) allowed_after ∙ joined_has (c.masks m n) mask r ∙ or_right (has (c.masks m n) r) (has mask r) h;
      }
