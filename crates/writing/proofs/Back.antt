-- Reading the bytes of a certificate gives it back.
use Rattle.std.proofs.Common.{◌≡◌, ℕ, ◌<◌, ◌≤◌, ◌/◌, ◌%◌, Bool, true, false, cond, ◌&&◌, ltb, List, [], ◌∷◌, ◌++◌, length, flat_map, fold, map, slice_get, Some, None, Option, sym, refl, ap, ◌∙◌, append-nil, ⊎_elim, arith}
use Rattle.std.specs.List.{All}
use Rattle.std.proofs.lemmas.Bool.{and_parts, and_from, cases_Bool, not_from_true, true_from_ne_false, lt-ltb, ltb-true, ltb-false}
use Rattle.std.proofs.lemmas.Grind.{flat_map-append, fold-append}
use Rattle.std.proofs.lemmas.List.Elements.{All-nil, All-cons}
use Rattle.std.proofs.lemmas.Option.{slice_get_within, slice_get_past}
use Rattle.model.specs.declared.counts.Counts.{Counts}
use Rattle.model.specs.declared.stamp.Stamp.{Stamp}
use Rattle.model.specs.Stamps.{is_subject}
use Rattle.model.proofs.Unbroken.{from_unbroken}
use Rattle.tapes.specs.ItemTapes.{well_formed_items}
use Rattle.certificates.specs.Certificates.{Certificate, no_stamps, Apart, OnlyListed}
use Rattle.certificates.specs.Items.{Item, allow, with_item, listed_by}
use Rattle.certificates.specs.Listing.{stamps_in}
use Rattle.certificates.specs.Reading.{Encodes}
use Rattle.certificates.specs.Rules.{item_rules, broken_after}
use Rattle.certificates.proofs.Listed.{listed_there}
use Rattle.certificates.proofs.Listing.{listed_exactly}
use Rattle.certificates.proofs.Masks.{none_if, same_matrix}
use Rattle.certificates.proofs.Numbers.{by_numbers, none_by_numbers, none_there}
use Rattle.writing.specs.Spelling.{AllSpelt}
use Rattle.writing.specs.Writing.{stamp_item, allowed_by, mask_items, items_below, cell_items, row_items, items_of, written, InScales}
use Rattle.writing.proofs.Allowed.{rows_after}
use Rattle.writing.proofs.Below.{all_below, none_below}
use Rattle.writing.proofs.Forming.{fits, formed_append, Fit, allows_formed, stamps_formed}
use Rattle.writing.proofs.Lengths.{written_long}
use Rattle.writing.proofs.Spelling.{stamp_back, same_back, stamps_back}

-- What is so of each certificate that is kept.
pub record Kept (c : Certificate) : Type 0 where
  pub few : length c.stamps ≤ 32
  pub apart : Apart c.stamps
  pub only_listed : OnlyListed c.stamps c.masks

-- what is written of masks lists no stamps
no_stamps_in_mask : (u v mask : ℕ) → flat_map stamps_in (mask_items u v mask) ≡ []
no_stamps_in_mask u v mask = by (ltb 0 mask)
  where
    by : (some : Bool) → flat_map stamps_in (cond some (allow u v (mask / 256) (mask % 256) ∷ []) []) ≡ []
    by true = refl
    by false = refl

-- what lists stamps allows nothing
stamps_allow_nothing : (stamps : List Stamp) (t : Certificate) → (fold with_item t (map stamp_item stamps)).masks ≡ t.masks
stamps_allow_nothing [] t = refl
stamps_allow_nothing (s ∷ stamps) t = stamps_allow_nothing stamps (with_item t (stamp_item s))

module _ (c : Certificate) (kept : Kept c) where
  abbrev long : ℕ
  long = length c.stamps

  abbrev stamps_written : List Item
  stamps_written = map stamp_item c.stamps

  abbrev masks_written : List Item
  masks_written = items_below (row_items c) long

  -- ---- masks

  abbrev both_listed : (u v : ℕ) → Bool
  both_listed u v = is_subject (slice_get c.stamps u) && ltb v long

  subject_within : (u : ℕ) → is_subject (slice_get c.stamps u) ≡ true → u < long
  subject_within u card = by (slice_get c.stamps u) refl card
    where
      by : (o : Option Stamp) → slice_get c.stamps u ≡ o → is_subject o ≡ true → u < long
      by None there is = cc
      by (Some s) there is = slice_get_within c.stamps u s there

  not_allowed : (u v : ℕ) → both_listed u v ≡ false → allowed_by c u v ≡ 0
  not_allowed u v out =
      ⊎_elim
      (λ (card : is_subject (slice_get c.stamps u) ≡ true).
      sym (none_there c (slice_get c.stamps u) (slice_get c.stamps v) (slice_get_past c.stamps v (ltb-false v long (ap (λ b. b && ltb v long) (sym card) ∙ out)))))
      (λ (other : is_subject (slice_get c.stamps u) ≡ false). sym (none_by_numbers c (slice_get c.stamps u) (slice_get c.stamps v) other))
      (cases_Bool (is_subject (slice_get c.stamps u)))

  -- what is allowed is the mask of two numbers that have one, and all others are empty
  allowed_at : (u v : ℕ) → cond (ltb u long && ltb v long) (allowed_by c u v) 0 ≡ c.masks u v
  allowed_at u v =
      ⊎_elim
      (λ (both : both_listed u v ≡ true).
      let parts = and_parts _ _ both in
      ap (λ b. cond b (allowed_by c u v) 0) (and_from _ _ (lt-ltb u long (subject_within u parts.0)) parts.1)
      ∙ sym (by_numbers c kept.apart u v parts.0 (ltb-true v long parts.1)))
      (λ (out : both_listed u v ≡ false).
      none_if (ltb u long && ltb v long) (allowed_by c u v) (not_allowed u v out) ∙ sym (kept.only_listed u v out))
      (cases_Bool (both_listed u v))

  same_masks : (listed_by (items_of c)).masks ≡ c.masks
  same_masks =
      same_matrix (listed_by (items_of c)).masks c.masks
      (λ a b.
      ap (λ (t : Certificate). t.masks a b) (fold-append with_item no_stamps stamps_written masks_written)
      ∙ rows_after (allowed_by c) long (listed_by stamps_written) (λ u v. ap (λ f. f u v) (stamps_allow_nothing c.stamps no_stamps)) long a b
      ∙ allowed_at a b)

  module _ (counts : Counts) (scaled : InScales counts c) (spelt : AllSpelt c) where
    -- ---- stamps

    back_at : (n : ℕ) (s : Stamp) → slice_get c.stamps n ≡ Some s → stamp_back s ≡ s
    back_at n s there = same_back s (spelt s (listed_there c n s there))

    same_stamps_alone : (listed_by stamps_written).stamps ≡ c.stamps
    same_stamps_alone = (listed_exactly stamps_written).stamps ∙ stamps_back c.stamps back_at

    same_stamps : (listed_by (items_of c)).stamps ≡ c.stamps
    same_stamps =
        (listed_exactly (items_of c)).stamps
        ∙ flat_map-append stamps_in stamps_written masks_written
        ∙ (λ i. stamps_back c.stamps back_at i ++ none_below (row_items c) stamps_in (λ u. none_below (cell_items c u) stamps_in (λ v. no_stamps_in_mask u v (allowed_by c u v)) long) long i)
        ∙ append-nil c.stamps

    -- ---- rules

    fit_mask : (u v high low : ℕ) → both_listed u v ≡ true → Fit counts c.stamps (allow u v high low)
    fit_mask u v high low both =
        let parts = and_parts (is_subject (slice_get c.stamps u)) (ltb v long) both in
        record {
          unbroken = λ t same.
              from_unbroken (item_rules counts t (allow u v high low)) (
                not_from_true _ (and_from _ _ (lt-ltb u 32 (omega (arith, kept.few, subject_within u parts.0))) (lt-ltb v 32 (omega (arith, kept.few, ltb-true v long parts.1)))),
                (not_from_true _ (ap (λ stamps. is_subject (slice_get stamps u) && ltb v (length stamps)) same ∙ both), tt),
              );
          keeps = λ t. refl;
        }

    abbrev fit : Item → Type 0
    fit = Fit counts c.stamps

    fit_cell : (u v : ℕ) → All fit (cell_items c u v)
    fit_cell u v = by (ltb 0 (allowed_by c u v)) refl
      where
        by : (some : Bool) → ltb 0 (allowed_by c u v) ≡ some → All fit (cond some (allow u v (allowed_by c u v / 256) (allowed_by c u v % 256) ∷ []) [])
        by true some =
            let both : both_listed u v ≡ true = true_from_ne_false (both_listed u v) (λ out. omega (arith, not_allowed u v out, ltb-true 0 (allowed_by c u v) some)) in
            All-cons fit (allow u v (allowed_by c u v / 256) (allowed_by c u v % 256)) [] (fit_mask u v _ _ both) (All-nil fit)
        by false empty = All-nil fit

    formed : well_formed_items (broken_after counts) (items_of c) ≡ true
    formed =
        formed_append (fits counts) [] stamps_written masks_written
        (stamps_formed counts c kept.few kept.apart (λ n s there. (scaled s (listed_there c n s there), back_at n s there)) [] c.stamps [] refl refl)
        (allows_formed counts c.stamps masks_written (all_below (row_items c) fit long (λ u low. all_below (cell_items c u) fit long (λ v low'. fit_cell u v))) stamps_written same_stamps_alone)

    pub written_encodes : Encodes counts (written c) c
    written_encodes = record {
      items = items_of c;
      encodes = (omega (arith, written_long c kept.few), refl, formed);
      makes = sym (λ i. record { stamps = same_stamps i; masks = same_masks i });
    }
