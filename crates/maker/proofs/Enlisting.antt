-- What a certificate with one stamp more lists and allows.
use Rattle.std.proofs.Common.{◌≡◌, ℕ, ◌<◌, ◌≤◌, ◌⊎◌, false, cond, ◌&&◌, ltb, is_some, List, [], ◌∷◌, ◌++◌, length, slice_get, Some, None, Option, refl, sym, ap, ◌∙◌, ⊎_elim, inl, inr, arith}
use Rattle.std.proofs.lemmas.Bool.{cases_lt, and_right, le-ltb}
use Rattle.std.proofs.lemmas.Option.{slice_get_past}
use Rattle.model.specs.declared.stamp.Stamp.{Stamp}
use Rattle.model.specs.Kinds.{subject_kind}
use Rattle.model.specs.Masks.{has}
use Rattle.model.specs.Stamps.{is_subject}
use Rattle.stores.specs.Matrices.{Matrix}
use Rattle.certificates.specs.Certificates.{Certificate, with_stamp, number_of, lists, at_numbers, Apart, OnlyListed}
use Rattle.certificates.proofs.Listed.{listed_there}
use Rattle.certificates.proofs.Stamps.{not_there, found_there, place_found, still_there, before_last, at_last, apart_more, not_listed}
use Rattle.maker.specs.declared.need.Need.TheVariants.{Stamp as Listing}
use Rattle.maker.specs.Growing.{Grown, SameAllowed}

pushed_there : {X : Type 0} (xs : List X) (x : X) → slice_get (xs ++ x ∷ []) (length xs) ≡ Some x
pushed_there [] x = refl
pushed_there (y ∷ ys) x = pushed_there ys x

no_column : (masks : Matrix) (o : Option ℕ) → at_numbers masks o None ≡ 0
no_column masks None = refl
no_column masks (Some m) = refl

module _ (c : Certificate) (s : Stamp) (apart : Apart c.stamps) (only : OnlyListed c.stamps c.masks) (new : lists c s ≡ false) where
  abbrev after : Certificate
  after = with_stamp c s

  abbrev last : ℕ
  last = length c.stamps

  pub apart_after : Apart after.stamps
  apart_after = apart_more c.stamps s apart (not_listed c.stamps s new)

  -- A stamp has the number that it had. Only the new one had none, and has the next.
  record New (x : Stamp) : Type 0 where
    before : number_of c x ≡ None
    next : number_of after x ≡ Some last
    is : x ≡ s

  number_after : (x : Stamp) → (number_of after x ≡ number_of c x) ⊎ New x
  number_after x = by (number_of c x) (number_of after x) refl refl
    where
      by : (o p : Option ℕ) → number_of c x ≡ o → number_of after x ≡ p → (number_of after x ≡ number_of c x) ⊎ New x
      by (Some m) p before then =
          inl (place_found after.stamps x m apart_after (still_there c.stamps (s ∷ []) m x (found_there c.stamps x m before)) ∙ sym before)
      by None None before then = inl (then ∙ sym before)
      by None (Some n) before then =
          let there = found_there after.stamps x n then in
          ⊎_elim
          (λ (low : n < last). absurd (not_there c.stamps x n before (before_last c.stamps s n x low there)))
          (λ (high : last ≤ n).
          let at = at_last c.stamps s n x high there in
          inr (record { before = before; next = then ∙ ap (λ k. Some k) at.0; is = at.1 }))
          (cases_lt n last)

  -- nothing is allowed of the next number
  next_row : (o : Option ℕ) → at_numbers c.masks (Some last) o ≡ 0
  next_row None = refl
  next_row (Some n) = only last n (ap (λ x. is_subject x && ltb n last) (slice_get_past c.stamps last (omega arith)))

  next_column : (o : Option ℕ) → at_numbers c.masks o (Some last) ≡ 0
  next_column None = refl
  next_column (Some m) = only m last (and_right (is_subject (slice_get c.stamps m)) (ltb last last) (le-ltb last last (omega arith)))

  allowed_at : (x y : Stamp) → at_numbers c.masks (number_of after x) (number_of after y) ≡ at_numbers c.masks (number_of c x) (number_of c y)
  allowed_at x y =
      ⊎_elim
      (λ (row : number_of after x ≡ number_of c x).
      ⊎_elim
      (λ (column : number_of after y ≡ number_of c y). λ i. at_numbers c.masks (row i) (column i))
      (λ (column : New y).
      ap (at_numbers c.masks (number_of after x)) column.next
      ∙ next_column (number_of after x)
      ∙ sym (ap (at_numbers c.masks (number_of c x)) column.before ∙ no_column c.masks (number_of c x)))
      (number_after y))
      (λ (row : New x).
      ap (λ o. at_numbers c.masks o (number_of after y)) row.next
      ∙ next_row (number_of after y)
      ∙ sym (ap (λ o. at_numbers c.masks o (number_of c y)) row.before))
      (number_after x)

  -- so no more is allowed
  pub allowed_same : SameAllowed c after
  allowed_same x y = ap (λ m. cond (subject_kind x.kind) m 0) (allowed_at x y)

  pub grown_by_stamp : Grown c (Listing s) after
  grown_by_stamp =
      record {
        grown = record {
          says_all = record {
            stamps = λ x listed.
                ⊎_elim
                (λ (same : number_of after x ≡ number_of c x). ap (λ o. is_some o) same ∙ listed)
                (λ (fresh : New x). ap (λ o. is_some o) fresh.next)
                (number_after x);
            rights = λ x y r h. ap (λ m. has m r) (allowed_same x y) ∙ h;
          };
          least = λ d above so.
              record {
                stamps = λ x listed.
                    ⊎_elim
                    (λ (same : number_of after x ≡ number_of c x). above.stamps x (ap (λ o. is_some o) (sym same) ∙ listed))
                    (λ (fresh : New x). ap (lists d) fresh.is ∙ so)
                    (number_after x);
                rights = λ x y r h. above.rights x y r (ap (λ m. has m r) (sym (allowed_same x y)) ∙ h);
              };
        };
        complete = listed_there after last s (pushed_there c.stamps s);
      }
