-- How a table meets a need, and when none can.
use Rattle.std.proofs.Common.{◌≡◌, ℕ, ◌<◌, ◌≤◌, Bool, true, false, cond, ◌&&◌, is_some, length, Some, None, Option, refl, sym, ap, ◌∙◌, arith}
use Rattle.std.proofs.lemmas.Bool.{both_ways, and_from, or_right}
use Rattle.std.proofs.lemmas.List.{length_push}
use Rattle.std.proofs.lemmas.Nat.{le_or_l}
use lib.Bits.{bit_or}
use Rattle.model.specs.declared.stamp.Stamp.{Stamp}
use Rattle.model.specs.Kinds.{subject_kind}
use Rattle.model.specs.Masks.{has, Within}
use Rattle.model.proofs.Containing.{joined_has}
use Rattle.certificates.specs.Certificates.{Certificate, with_stamp, with_mask, number_of, lists, at_numbers, allows, Apart, OnlyListed}
use Rattle.certificates.proofs.Listed.{listed_there, there_listed}
use Rattle.checker.proofs.Bounding.{within_nothing}
use Rattle.checker.proofs.Strays.{empty_inside}
use Rattle.maker.specs.declared.need.Need.{Need}
use Rattle.maker.specs.declared.need.Need.TheVariants.{Stamp as Listing, Rights}
use Rattle.maker.specs.Comparing.{Above}
use Rattle.maker.specs.Growing.{Has, Bursts, Met, SameAllowed, Unfit}
use Rattle.maker.proofs.Counting.{included_length}
use Rattle.maker.proofs.Enlisting.{apart_after, grown_by_stamp}
use Rattle.maker.proofs.Granting.{allowed_before, grown_by_rights}
use Rattle.maker.proofs.Growths.{grown_self, grown_both, grown_for_more}
use Rattle.maker.proofs.Rooms.{less_by_stamp, room_written}

-- a need that is met already
pub met_already : (c : Certificate) (need : Need) → Has c need → Met c need c
met_already c need has =
    record {
      added = record { grown = grown_self (λ d. Has d need) c; complete = has };
      no_more = omega arith;
      less = λ lacks. absurd (lacks has);
    }

-- one stamp more
module _ (c : Certificate) (s : Stamp) (apart : Apart c.stamps) (only : OnlyListed c.stamps c.masks) (new : lists c s ≡ false) where
  pub met_by_stamp : length c.stamps < 32 → Met c (Listing s) (with_stamp c s)
  met_by_stamp low =
      record {
        added = grown_by_stamp c s apart only new;
        no_more = omega (arith, less_by_stamp c s low);
        less = λ _. less_by_stamp c s low;
      }

  -- Where 32 are listed, whatever lists them all and this one lists more.
  pub too_many : 32 ≤ length c.stamps → Bursts c (Listing s)
  too_many full d (above, so) =
      let more = with_stamp c s in
      let over : Above d more = (grown_by_stamp c s apart only new).grown.least d above so in
      let long =
      included_length more.stamps d.stamps (apart_after c s apart only new)
      (λ n x there. there_listed d x (over.stamps x (listed_there more n x there))) in
      omega (arith, full, long, length_push c.stamps s)

-- a mask that is not empty is allowed only a listed card's stamp, on a listed stamp
record Allowing (d : Certificate) (u v : Stamp) : Type 0 where
  row : lists d u ≡ true
  column : lists d v ≡ true
  card : subject_kind u.kind ≡ true

allowing : (d : Certificate) (u v : Stamp) (mask : ℕ) → (mask ≡ 0 → ⊥) → Within mask (allows d u v) → Allowing d u v
allowing d u v mask filled within = by (subject_kind u.kind) (number_of d u) (number_of d v) refl refl refl
  where
    none : allows d u v ≡ 0 → ⊥
    none empty = filled (within_nothing mask (λ r h. ap (λ k. has k r) (sym empty) ∙ within r h))

    by : (card : Bool) (o p : Option ℕ) → subject_kind u.kind ≡ card → number_of d u ≡ o → number_of d v ≡ p → Allowing d u v
    by false o p kind row column = absurd (none (ap (λ b. cond b (at_numbers d.masks (number_of d u) (number_of d v)) 0) kind))
    by true None p kind row column = absurd (none (λ i. cond (kind i) (at_numbers d.masks (row i) (column i)) 0))
    by true (Some m) None kind row column = absurd (none (λ i. cond (kind i) (at_numbers d.masks (row i) (column i)) 0))
    by true (Some m) (Some n) kind row column =
        record { row = ap (λ x. is_some x) row; column = ap (λ x. is_some x) column; card = kind }

-- a mask more, between two that are listed
module _ (c : Certificate) (u v : Stamp) (m n mask : ℕ) (row : number_of c u ≡ Some m) (column : number_of c v ≡ Some n) (card : subject_kind u.kind ≡ true) where
  abbrev more : ℕ
  more = bit_or (c.masks m n) mask

  -- what leaves a mask as it is was within it
  had : c.masks m n ≡ more → Has c (Rights u v mask)
  had same r h =
      ap (λ k. has k r) (allowed_before c u v m n mask row column card ∙ same)
      ∙ joined_has (c.masks m n) mask r
      ∙ or_right (has (c.masks m n) r) (has mask r) h

  pub met_by_rights : m < 32 → n < 32 → more < 65536 → Met c (Rights u v mask) (with_mask c m n more)
  met_by_rights low low' fits =
      let larger = le_or_l (c.masks m n) mask in
      let rooms = room_written c m n more low low' in
      record {
        added = grown_by_rights c u v m n mask row column card;
        no_more = omega (arith, larger, rooms);
        less = λ lacks. let other : c.masks m n ≡ more → ⊥ = λ same. lacks (had same) in omega (arith, larger, rooms, fits, other);
      }

-- Both stamps are listed first, and then the mask is added to theirs, where it was not allowed before.
module _ (c : Certificate) (u v : Stamp) (mask : ℕ) (lacks : Has c (Rights u v mask) → ⊥) where
  needs : (d : Certificate) → Has d (Rights u v mask) → Allowing d u v
  needs d so = allowing d u v mask (λ empty. lacks (empty_inside mask (allows c u v) empty)) so

  pub bursts_by_row : Bursts c (Listing u) → Bursts c (Rights u v mask)
  bursts_by_row bursts d (above, so) = bursts d (above, (needs d so).row)

  module _ (t : Certificate) (first : Met c (Listing u) t) where
    pub bursts_by_column : Bursts t (Listing v) → Bursts c (Rights u v mask)
    bursts_by_column bursts d (above, so) =
        let these = needs d so in
        bursts d (first.added.grown.least d above these.row, these.column)

    module _ (t' : Certificate) (second : Met t (Listing v) t') where
      pub bursts_by_kind : Unfit t' u v → Bursts c (Rights u v mask)
      bursts_by_kind unfit d (above, so) =
          absurd
          (both_ways (lists t' u && (lists t' v && subject_kind u.kind)) unfit
          (and_from (lists t' u) (lists t' v && subject_kind u.kind) (second.added.grown.says_all.stamps u first.added.complete)
          (and_from (lists t' v) (subject_kind u.kind) second.added.complete (needs d so).card)))

      pub met_by_all : SameAllowed c t → SameAllowed t t' → (after : Certificate) → Met t' (Rights u v mask) after → Met c (Rights u v mask) after
      met_by_all same same' after third =
          let fewer = third.less (λ met. lacks (λ r h. ap (λ k. has k r) (sym (same' u v ∙ same u v)) ∙ met r h)) in
          record {
            added = record {
              grown =
                  grown_both (λ d. Has d (Rights u v mask)) c t' after
                  (grown_both (λ d. Has d (Rights u v mask)) c t t'
                  (grown_for_more (λ d. Has d (Listing u)) (λ d. Has d (Rights u v mask)) c (λ d above so. (needs d so).row) t first.added.grown)
                  (grown_for_more (λ d. Has d (Listing v)) (λ d. Has d (Rights u v mask)) t (λ d above so. (needs d so).column) t' second.added.grown))
                  third.added.grown;
              complete = third.added.complete;
            };
            no_more = omega (arith, first.no_more, second.no_more, third.no_more);
            less = λ _. omega (arith, first.no_more, second.no_more, fewer);
          }
