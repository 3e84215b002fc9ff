-- No two listed stamps are the same, so each has the number of its place.
use Rattle.std.proofs.Common.{◌≡◌, ℕ, ◌<◌, ◌≤◌, Bool, true, false, if◌then◌else◌, is_some, List, [], ◌∷◌, ◌++◌, length, get_or, slice_get, Some, None, Option, refl, sym, ap, ◌∙◌, subst, ⊎_elim, arith}
use Rattle.std.specs.List.{position, position_or_len}
use Rattle.std.proofs.lemmas.Bool.{cases_lt, both_ways, lt-ltb}
use Rattle.std.proofs.lemmas.List.{length_push, length-append, get_or_append_left}
use Rattle.std.proofs.lemmas.List.Quantifiers.{position-Some}
use Rattle.std.proofs.lemmas.List.Sums.{fails_before_first}
use Rattle.std.proofs.lemmas.Option.{none-some, slice_get_within, slice_get-get_or, get_or_from_slice_get}
use Rattle.model.specs.declared.stamp.Stamp.{Stamp}
use Rattle.model.specs.Stamps.{same_stamp}
use Rattle.model.proofs.Stamps.{stamp_so, stamp_self}
use Rattle.certificates.specs.Certificates.{Apart}

pub none_apart : Apart []
none_apart m n s h k = absurd (omega (arith, slice_get_within [] m s h))

-- what is not found is not there
pub not_there : (stamps : List Stamp) (s : Stamp) (n : ℕ) → position (λ t. same_stamp t s) stamps ≡ None → slice_get stamps n ≡ Some s → ⊥
not_there stamps s n none there =
    let first = position_or_len (λ t. same_stamp t s) stamps in
    let inside = slice_get_within stamps n s there in
    ⊎_elim
    (λ (found : first < length stamps). none-some first (sym none ∙ rw (lt-ltb first (length stamps) found) refl))
    (λ (past : length stamps ≤ first).
    both_ways (same_stamp s s)
    (ap (λ t. same_stamp t s) (sym (get_or_from_slice_get stamps n s s there)) ∙ fails_before_first (λ t. same_stamp t s) stamps n s (omega (arith, inside, past)))
    (stamp_self s))
    (cases_lt first (length stamps))

-- what is found is there
pub found_there : (stamps : List Stamp) (s : Stamp) (n : ℕ) → position (λ t. same_stamp t s) stamps ≡ Some n → slice_get stamps n ≡ Some s
found_there stamps s n found =
    let here = position-Some (λ t. same_stamp t s) stamps n s found in
    slice_get-get_or stamps n s here.0 ∙ ap (λ t. Some t) (stamp_so (get_or stamps n s) s here.1)

-- and where no two are the same, a stamp is found at its place
pub place_found : (stamps : List Stamp) (s : Stamp) (n : ℕ) → Apart stamps → slice_get stamps n ≡ Some s → position (λ t. same_stamp t s) stamps ≡ Some n
place_found stamps s n apart there = by (position (λ t. same_stamp t s) stamps) refl
  where
    by : (o : Option ℕ) → position (λ t. same_stamp t s) stamps ≡ o → o ≡ Some n
    by None none = absurd (not_there stamps s n none there)
    by (Some m) found = ap (λ k. Some k) (apart m n s (found_there stamps s m found) there)

-- a stamp that is there is still there with others after it
pub still_there : (stamps others : List Stamp) (n : ℕ) (s : Stamp) → slice_get stamps n ≡ Some s → slice_get (stamps ++ others) n ≡ Some s
still_there stamps others n s there =
    let low = slice_get_within stamps n s there in
    slice_get-get_or (stamps ++ others) n s (omega (arith, low, length-append stamps others))
    ∙ ap (λ x. Some x) (get_or_append_left stamps others s n low ∙ get_or_from_slice_get stamps n s s there)

-- one more at the end
module _ (stamps : List Stamp) (s : Stamp) where
  abbrev pub more : List Stamp
  more = stamps ++ s ∷ []

  pub before_last : (n : ℕ) (t : Stamp) → n < length stamps → slice_get more n ≡ Some t → slice_get stamps n ≡ Some t
  before_last n t low there =
      slice_get-get_or stamps n t low
      ∙ ap (λ x. Some x) (sym (get_or_append_left stamps (s ∷ []) t n low) ∙ get_or_from_slice_get more n t t there)

  pub at_last : (n : ℕ) (t : Stamp) → length stamps ≤ n → slice_get more n ≡ Some t → (n ≡ length stamps) × (t ≡ s)
  at_last n t high there =
      let inside = slice_get_within more n t there in
      let here : n ≡ length stamps = omega (arith, high, inside, length_push stamps s) in
      (here, sym (get_or_from_slice_get more n t t there) ∙ ap (λ k. get_or more k t) here ∙ last stamps t)
    where
      last : (xs : List Stamp) (d : Stamp) → get_or (xs ++ s ∷ []) (length xs) d ≡ s
      last [] d = refl
      last (x ∷ xs) d = last xs d

  pub apart_more : Apart stamps → position (λ t. same_stamp t s) stamps ≡ None → Apart more
  apart_more apart none m n t h k =
      ⊎_elim
      (λ (low : m < length stamps).
      ⊎_elim
      (λ (low' : n < length stamps). apart m n t (before_last m t low h) (before_last n t low' k))
      (λ (high : length stamps ≤ n). absurd (not_there stamps s m none (before_last m t low h ∙ ap (λ x. Some x) (at_last n t high k).1)))
      (cases_lt n (length stamps)))
      (λ (high : length stamps ≤ m).
      ⊎_elim
      (λ (low : n < length stamps). absurd (not_there stamps s n none (before_last n t low k ∙ ap (λ x. Some x) (at_last m t high h).1)))
      (λ (high' : length stamps ≤ n). (at_last m t high h).0 ∙ sym (at_last n t high' k).0)
      (cases_lt n (length stamps)))
      (cases_lt m (length stamps))

pub not_listed : (stamps : List Stamp) (s : Stamp) → is_some (position (λ t. same_stamp t s) stamps) ≡ false → position (λ t. same_stamp t s) stamps ≡ None
not_listed stamps s out = by (position (λ t. same_stamp t s) stamps) out
  where
    by : (o : Option ℕ) → is_some o ≡ false → o ≡ None
    by None none = refl
    by (Some n) none = cc

-- whether there was room for it or not; it is one that is not found only where there is
pub apart_if : (stamps : List Stamp) (s : Stamp) → Apart stamps → (room : Bool) → (room ≡ true → position (λ t. same_stamp t s) stamps ≡ None) → (after : List Stamp) → after ≡ (if room then stamps ++ s ∷ [] else stamps) → Apart after
apart_if stamps s apart true none after is = subst Apart (sym is) (apart_more stamps s apart (none refl))
apart_if stamps s apart false none after is = subst Apart (sym is) apart
