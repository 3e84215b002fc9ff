-- Only listed stamps have masks, and the first is a card's.
use Rattle.std.proofs.Common.{◌≡◌, ℕ, Bool, true, false, ◌&&◌, ltb, if◌then◌else◌, List, [], ◌∷◌, ◌++◌, length, replicate, slice_get, Some, None, Option, refl, sym, ap, ◌∙◌, subst, ⊎_elim, arith}
use Rattle.std.proofs.lemmas.Bool.{cases_Bool, and_parts, and_from, both_ways, ltb-true, lt-ltb}
use Rattle.std.proofs.lemmas.List.{length_push}
use Rattle.model.specs.declared.stamp.Stamp.{Stamp}
use Rattle.model.specs.Stamps.{is_subject}
use Rattle.stores.specs.Matrices.{Matrix}
use Rattle.certificates.specs.Certificates.{OnlyListed}
use Rattle.certificates.specs.Places.{masks_of}
use Rattle.certificates.proofs.Masks.{none_allowed}
use Rattle.certificates.proofs.Stamps.{still_there}

-- two numbers that have a mask: both are listed stamps', the first a card's
abbrev both_listed : List Stamp → (m n : ℕ) → Bool
both_listed stamps m n = is_subject (slice_get stamps m) && ltb n (length stamps)

pub only_listed_none : (stamps : List Stamp) → OnlyListed stamps (masks_of (replicate {A = ℕ} 1024 0))
only_listed_none stamps m n out = ap (λ f. f m n) none_allowed

-- one more at the end
module _ (stamps : List Stamp) (s : Stamp) where
  abbrev more : List Stamp
  more = stamps ++ s ∷ []

  subject_still : (m : ℕ) → is_subject (slice_get stamps m) ≡ true → is_subject (slice_get more m) ≡ true
  subject_still m card = by (slice_get stamps m) refl card
    where
      by : (o : Option Stamp) → slice_get stamps m ≡ o → is_subject o ≡ true → is_subject (slice_get more m) ≡ true
      by None there is = cc
      by (Some t) there is = ap is_subject (still_there stamps (s ∷ []) m t there) ∙ is

  both_still : (m n : ℕ) → both_listed stamps m n ≡ true → both_listed more m n ≡ true
  both_still m n both =
      let parts = and_parts _ _ both in
      and_from _ _ (subject_still m parts.0) (lt-ltb n (length more) (omega (arith, ltb-true n (length stamps) parts.1, length_push stamps s)))

  only_listed_more : (masks : Matrix) → OnlyListed stamps masks → OnlyListed more masks
  only_listed_more masks only m n out =
      ⊎_elim
      (λ (both : both_listed stamps m n ≡ true). absurd (both_ways (both_listed more m n) out (both_still m n both)))
      (λ (not_both : both_listed stamps m n ≡ false). only m n not_both)
      (cases_Bool (both_listed stamps m n))

-- whether there was room for it or not
pub only_listed_if : (stamps : List Stamp) (s : Stamp) (masks : Matrix) → OnlyListed stamps masks → (room : Bool) → (after : List Stamp) → after ≡ (if room then stamps ++ s ∷ [] else stamps) → OnlyListed after masks
only_listed_if stamps s masks only true after is = subst (λ xs. OnlyListed xs masks) (sym is) (only_listed_more stamps s masks only)
only_listed_if stamps s masks only false after is = subst (λ xs. OnlyListed xs masks) (sym is) only
