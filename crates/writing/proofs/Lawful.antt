-- What is so of a certificate that a lawful tape lists: it lists 32 stamps at most, and each of them is in its scales, and no two are the same.
use Rattle.std.proofs.Common.{◌≡◌, ℕ, ◌<◌, ◌≤◌, true, List, [], length, slice_get, Some, None, sym, ap, ◌∙◌, subst, ⊎_elim, arith}
use Rattle.std.proofs.lemmas.Bool.{cases_lt, and_parts, leb-false, not-false}
use Rattle.std.proofs.lemmas.List.{length_push}
use Rattle.std.proofs.lemmas.Option.{slice_get_within}
use Rattle.model.specs.declared.counts.Counts.{Counts}
use Rattle.model.specs.declared.stamp.Stamp.{Stamp}
use Rattle.model.specs.Counts.{in_scales}
use Rattle.model.proofs.Unbroken.{to_unbroken}
use Rattle.tapes.proofs.ItemTapes.{kept_of_all}
use Rattle.certificates.specs.Certificates.{Certificate, Apart}
use Rattle.certificates.specs.Items.{Item, stamp, allow, stamp_by, with_item, listed_by}
use Rattle.certificates.specs.Reading.{Encodes}
use Rattle.certificates.specs.Rules.{is_kind, item_rules, broken_after}
use Rattle.certificates.specs.Said.{rule}
use Rattle.certificates.proofs.Language.{listed_push}
use Rattle.certificates.proofs.Listed.{there_listed}
use Rattle.certificates.proofs.Stamps.{none_apart, before_last, at_last, apart_more, not_listed}
use Rattle.writing.specs.Writing.{InScales}

module _ (counts : Counts) where
  -- What holds where nothing is listed, and after each item that breaks no rule, holds of what a lawful tape lists.
  module _ (P : Certificate → Type 0) (none : P (listed_by [])) (more : (c : Certificate) (i : Item) → P c → rule counts c i ≡ None → P (with_item c i)) where
    so_of_encoded : (tape : List ℕ) (c : Certificate) → Encodes counts tape c → P c
    so_of_encoded tape c encodes =
        subst P (sym encodes.makes)
        (kept_of_all (broken_after counts) (λ items. P (listed_by items))
        (λ before i so ok. subst P (sym (listed_push before i)) (more (listed_by before) i so ok))
        none encodes.items encodes.encodes.2)

  few_more : (c : Certificate) (i : Item) → length c.stamps ≤ 32 → rule counts c i ≡ None → length (with_item c i).stamps ≤ 32
  few_more c (stamp kind a b x d) few ok =
      let low : length c.stamps < 32 = leb-false _ _ (to_unbroken (item_rules counts c (stamp kind a b x d)) ok).0 in
      omega (arith, low, length_push c.stamps (stamp_by kind a b x d))
  few_more c (allow u v high low) few ok = few

  pub encoded_few : (tape : List ℕ) (c : Certificate) → Encodes counts tape c → length c.stamps ≤ 32
  encoded_few = so_of_encoded (λ c. length c.stamps ≤ 32) (omega arith) few_more

  -- each stamp that is there is in its scales
  abbrev AllScaled : Certificate → Type 0
  AllScaled c = (n : ℕ) (s : Stamp) → slice_get c.stamps n ≡ Some s → in_scales counts s ≡ true

  scaled_more : (c : Certificate) (i : Item) → AllScaled c → rule counts c i ≡ None → AllScaled (with_item c i)
  scaled_more c (stamp kind a b x d) all ok n s there =
      let new = stamp_by kind a b x d in
      let rules = to_unbroken (item_rules counts c (stamp kind a b x d)) ok in
      ⊎_elim
      (λ (low : n < length c.stamps). all n s (before_last c.stamps new n s low there))
      (λ (high : length c.stamps ≤ n).
      ap (in_scales counts) (at_last c.stamps new n s high there).1
      ∙ (and_parts (is_kind kind) (in_scales counts new) (not-false _ rules.1.0)).1)
      (cases_lt n (length c.stamps))
  scaled_more c (allow u v high low) all ok n s there = all n s there

  pub encoded_scaled : (tape : List ℕ) (c : Certificate) → Encodes counts tape c → InScales counts c
  encoded_scaled tape c encodes s listed =
      let there = there_listed c s listed in
      so_of_encoded AllScaled (λ n t there. absurd (omega (arith, slice_get_within [] n t there))) scaled_more tape c encodes there.0 s there.1

  apart_more_item : (c : Certificate) (i : Item) → Apart c.stamps → rule counts c i ≡ None → Apart (with_item c i).stamps
  apart_more_item c (stamp kind a b x d) apart ok =
      let new = stamp_by kind a b x d in
      apart_more c.stamps new apart (not_listed c.stamps new (to_unbroken (item_rules counts c (stamp kind a b x d)) ok).1.1.0)
  apart_more_item c (allow u v high low) apart ok = apart

  pub encoded_apart : (tape : List ℕ) (c : Certificate) → Encodes counts tape c → Apart c.stamps
  encoded_apart = so_of_encoded (λ c. Apart c.stamps) none_apart apart_more_item
