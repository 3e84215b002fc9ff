-- What is allowed, by the numbers of stamps.
use Rattle.std.proofs.Common.{◌≡◌, ℕ, ◌<◌, true, false, cond, length, slice_get, Some, None, Option, refl, sym, ap, ◌∙◌}
use Rattle.std.proofs.lemmas.Option.{none-some, slice_get-get_or}
use Rattle.model.specs.declared.stamp.Stamp.{Stamp}
use Rattle.model.specs.Kinds.{subject_kind}
use Rattle.model.specs.Stamps.{is_subject}
use Rattle.certificates.specs.Certificates.{Certificate, number_of, at_numbers, allows, between, stamp_at, Apart}
use Rattle.certificates.proofs.Stamps.{place_found}

module _ (c : Certificate) (apart : Apart c.stamps) where
  -- of two stamps that are there
  allowed_there : (u v : ℕ) (s t : Stamp) → slice_get c.stamps u ≡ Some s → slice_get c.stamps v ≡ Some t → subject_kind s.kind ≡ true → c.masks u v ≡ allows c s t
  allowed_there u v s t here there card =
      sym
      (ap (λ b. cond b (at_numbers c.masks (number_of c s) (number_of c t)) 0) card
      ∙ ap (λ m. at_numbers c.masks m (number_of c t)) (place_found c.stamps s u apart here)
      ∙ ap (λ n. at_numbers c.masks (Some u) n) (place_found c.stamps t v apart there))

  pub by_numbers : (u v : ℕ) → is_subject (slice_get c.stamps u) ≡ true → v < length c.stamps → c.masks u v ≡ between c (stamp_at c (Some u)) (stamp_at c (Some v))
  by_numbers u v card low = by (slice_get c.stamps u) (slice_get c.stamps v) refl refl card
    where
      by : (a b : Option Stamp) → slice_get c.stamps u ≡ a → slice_get c.stamps v ≡ b → is_subject a ≡ true → c.masks u v ≡ between c a b
      by None b here there card' = cc
      by (Some s) (Some t) here there card' = allowed_there u v s t here there card'
      by (Some s) None here there card' = absurd (none-some _ (sym there ∙ slice_get-get_or c.stamps v s low))

-- where the first is no card's, or the second is not there, nothing is allowed
pub none_by_numbers : (c : Certificate) (a b : Option Stamp) → is_subject a ≡ false → 0 ≡ between c a b
none_by_numbers c None b other = refl
none_by_numbers c (Some s) None other = refl
none_by_numbers c (Some s) (Some t) other = sym (ap (λ x. cond x (at_numbers c.masks (number_of c s) (number_of c t)) 0) other)

pub none_there : (c : Certificate) (a b : Option Stamp) → b ≡ None → 0 ≡ between c a b
none_there c None b none = refl
none_there c (Some s) None none = refl
none_there c (Some s) (Some t) none = cc
