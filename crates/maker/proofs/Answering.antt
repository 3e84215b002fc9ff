-- What the calls that list a stamp and that allow a mask answer, and what is met by that.
use Rattle.std.proofs.Common.{◌≡◌, ℕ, ◌<◌, ◌≤◌, Bool, true, false, not, IsTrue, ◌↔◌, ◌&&◌, leb, ltb, is_ok, List, [], ◌∷◌, length, slice_get, Result, Ok, Err, MatchResult, Some, refl, sym, ap, ◌∙◌, subst, arith}
use Rattle.std.specs.Bool.{⊤}
use Rattle.std.proofs.lemmas.Bool.{both_ways, leb-true, leb-false, lt-ltb, and_from, and_parts, and_right, not-false}
use Rattle.std.proofs.lemmas.Option.{none-some, slice_get_within}
use Rattle.std.proofs.lemmas.Nat.{or_lt}
use lib.Bits.{bit_or}
use Rattle.model.specs.declared.fault.Reason.{Reason}
use Rattle.model.specs.declared.stamp.Stamp.{Stamp}
use Rattle.model.specs.Answers.{refused_by, lowest, unless}
use Rattle.model.specs.Kinds.{subject_kind}
use Rattle.model.specs.Masks.{Within}
use Rattle.model.specs.Stamps.{is_subject}
use Rattle.model.proofs.Unbroken.{to_unbroken, from_unbroken}
use Rattle.certificates.specs.Certificates.{Certificate, with_stamp, with_mask, number_of, lists, allows, Apart, OnlyListed}
use Rattle.certificates.proofs.Stamps.{found_there}
use Rattle.maker.specs.declared.need.Need.TheVariants.{Stamp as Listing, Rights}
use Rattle.maker.specs.declared.need.Overfull.{Overfull}
use Rattle.maker.specs.Growing.{Has, Bursts, Met, SameAllowed, Unfit}
use Rattle.maker.proofs.Enlisting.{allowed_same}
use Rattle.maker.proofs.Granting.{allowed_before}
use Rattle.maker.proofs.Meeting.{met_by_stamp, too_many, met_by_rights}

-- the rules on one stamp more, and on a mask
abbrev list_rules : Certificate → Stamp → List (ℕ × Bool)
list_rules c s = (4, leb 32 (length c.stamps)) ∷ (7, lists c s) ∷ []

abbrev allow_rules : Certificate → (m n : ℕ) → List (ℕ × Bool)
allow_rules c m n = (5, not (ltb m 32 && ltb n 32)) ∷ (7, not (is_subject (slice_get c.stamps m) && ltb n (length c.stamps))) ∷ []

module _ (c : Certificate) (s : Stamp) (apart : Apart c.stamps) (only : OnlyListed c.stamps c.masks) (new : lists c s ≡ false) where
  pub listed_met : (listed : Result ⊤ Reason) (result : Result ⊤ Overfull) (after : Certificate) → is_ok result ≡ is_ok listed → refused_by listed ≡ lowest (list_rules c s) → after ≡ unless (refused_by listed) c (with_stamp c s) → MatchResult result (λ _. Met c (Listing s) after) (λ _. Bursts c (Listing s))
  listed_met (Ok x) (Ok y) after same answer is =
      subst (Met c (Listing s)) (sym is) (met_by_stamp c s apart only new (leb-false _ _ (to_unbroken (list_rules c s) (sym answer)).0))
  listed_met (Err e) (Err f) after same answer is = by (leb 32 (length c.stamps)) refl
    where
      by : (full : Bool) → leb 32 (length c.stamps) ≡ full → Bursts c (Listing s)
      by true full = too_many c s apart only new (leb-true _ _ full)
      by false room = absurd (none-some _ (sym (answer ∙ from_unbroken (list_rules c s) (room, (new, tt)))))
  listed_met (Ok x) (Err f) after same answer is = cc
  listed_met (Err e) (Ok y) after same answer is = cc

  pub listed_same : (listed : Result ⊤ Reason) (result : Result ⊤ Overfull) (after : Certificate) → is_ok result ≡ is_ok listed → after ≡ unless (refused_by listed) c (with_stamp c s) → MatchResult result (λ _. SameAllowed c after) (λ _. ⊤)
  listed_same (Ok x) (Ok y) after same is = subst (SameAllowed c) (sym is) (allowed_same c s apart only new)
  listed_same (Err e) (Err f) after same is = tt
  listed_same (Ok x) (Err f) after same is = tt
  listed_same (Err e) (Ok y) after same is = cc

module _ (c : Certificate) (u v : Stamp) (m n mask : ℕ) (row : number_of c u ≡ Some m) (column : number_of c v ≡ Some n) (few : length c.stamps ≤ 32) where
  low : m < length c.stamps
  low = slice_get_within c.stamps m u (found_there c.stamps u m row)

  low' : n < length c.stamps
  low' = slice_get_within c.stamps n v (found_there c.stamps v n column)

  kind_there : is_subject (slice_get c.stamps m) ≡ subject_kind u.kind
  kind_there = ap is_subject (found_there c.stamps u m row)

  -- so none of the rules is broken where the first is a card's
  numbers : not (ltb m 32 && ltb n 32) ≡ false
  numbers = rw (lt-ltb m 32 (omega (arith, low, few)), lt-ltb n 32 (omega (arith, low', few))) refl

  ends : subject_kind u.kind ≡ true → not (is_subject (slice_get c.stamps m) && ltb n (length c.stamps)) ≡ false
  ends card = ap not (and_from (is_subject (slice_get c.stamps m)) (ltb n (length c.stamps)) (kind_there ∙ card) (lt-ltb n (length c.stamps) low'))

  pub joined_met : allows c u v < 65536 → mask < 65536 → (allowed : Result ⊤ Reason) (result : Result ⊤ Overfull) (after : Certificate) → is_ok result ≡ is_ok allowed → refused_by allowed ≡ lowest (allow_rules c m n) → after ≡ unless (refused_by allowed) c (with_mask c m n (bit_or (c.masks m n) mask)) → MatchResult result (λ _. Met c (Rights u v mask) after) (λ _. Unfit c u v)
  joined_met small fits (Ok x) (Ok y) after same answer is =
      let there = (and_parts (is_subject (slice_get c.stamps m)) (ltb n (length c.stamps)) (not-false _ (to_unbroken (allow_rules c m n) (sym answer)).1.0)).0 in
      let card : subject_kind u.kind ≡ true = sym kind_there ∙ there in
      let held : c.masks m n < 65536 = rw (allowed_before c u v m n mask row column card) at small in
      subst (Met c (Rights u v mask)) (sym is)
      (met_by_rights c u v m n mask row column card (omega (arith, low, few)) (omega (arith, low', few)) (or_lt 16 (c.masks m n) mask held fits))
  joined_met small fits (Err e) (Err f) after same answer is = by (subject_kind u.kind) refl
    where
      by : (card : Bool) → subject_kind u.kind ≡ card → Unfit c u v
      by false thing = and_right (lists c u) (lists c v && subject_kind u.kind) (and_right (lists c v) (subject_kind u.kind) thing)
      by true card = absurd (none-some _ (sym (answer ∙ from_unbroken (allow_rules c m n) (numbers, (ends card, tt)))))
  joined_met small fits (Ok x) (Err f) after same answer is = cc
  joined_met small fits (Err e) (Ok y) after same answer is = cc

-- what was tested before
pub has_so : (c : Certificate) (u v : Stamp) (mask allowed : ℕ) (within : Bool) → allowed ≡ allows c u v → (IsTrue within ↔ Within mask allowed) → within ≡ true → Has c (Rights u v mask)
has_so c u v mask allowed within is tested so = subst (Within mask) is (tested.0 so)

pub lacks_so : (c : Certificate) (u v : Stamp) (mask allowed : ℕ) (within : Bool) → allowed ≡ allows c u v → (IsTrue within ↔ Within mask allowed) → within ≡ false → Has c (Rights u v mask) → ⊥
lacks_so c u v mask allowed within is tested not has = both_ways within not (tested.1 (subst (Within mask) (sym is) has))
