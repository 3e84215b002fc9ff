-- Stamps have bytes, and a loop over them puts these into a buffer.
use Rattle.std.proofs.Common.{◌≡◌, ℕ, suc, ◌+◌, ◌*◌, ◌<◌, ◌≤◌, Bool, true, List, [], ◌∷◌, ◌++◌, length, take, get_or, map, flat_map, slice_get, Some, None, Option, unwrap_or, ⊎_elim, refl, sym, ap, ◌∙◌, zero-add, length-append, arith}
use Rattle.std.specs.List.{range_with_len}
use Rattle.std.proofs.lemmas.Bool.{true_from_ne_false, both_ways, cases_lt, ltb-true, lt-ltb}
use Rattle.std.proofs.lemmas.List.{flat_map_more, map-append, take_more}
use Rattle.std.proofs.lemmas.List.Folds.{list_all_at}
use Rattle.std.proofs.lemmas.List.FromFn.{get_or-range_with_len}
use Rattle.std.proofs.lemmas.Option.{slice_get_past}
use Rattle.model.specs.declared.counts.Counts.{Counts}
use Rattle.model.specs.declared.kind.Kind.{Kind}
use Rattle.model.specs.declared.kind.Kind.TheVariants.{Subject, Object}
use Rattle.model.specs.declared.stamp.Stamp.{Stamp}
use Rattle.model.specs.Counts.{count_of, is_null_or_value, in_scales}
use Rattle.model.specs.Kinds.{kind_number}
use Rattle.model.specs.Stamps.{attribute_of}
use Rattle.tapes.specs.Values.{value_on_tape}
use Rattle.certificates.specs.Encoding.{code}
use Rattle.certificates.specs.Items.{kind_of, stamp_by}
use Rattle.certificates.specs.Listing.{stamps_in}
use Rattle.writing.specs.Buffers.{bytes_of}
use Rattle.writing.specs.Spelling.{Spelt}
use Rattle.writing.specs.Writing.{stamp_item}

-- A scale with 255 values at most has none that is not a byte, or is null's.
module _ (counts : Counts) (small : (k : ℕ) → count_of counts k ≤ 255) where
  value_byte : (k : ℕ) (v : Option ℕ) → is_null_or_value counts k v ≡ true → value_on_tape v ≤ 255
  value_byte k None is = omega arith
  value_byte k (Some v) is =
      let low = ltb-true v (count_of counts k) is in
      rw (lt-ltb v 255 (omega (arith, low, small k))) (omega (arith, low, small k))

  module _ (s : Stamp) (is : in_scales counts s ≡ true) where
    abbrev fits : ℕ → Bool
    fits k = is_null_or_value counts k (attribute_of s k)

    fits_at : (k : ℕ) → k < 4 → fits k ≡ true
    fits_at k low =
        true_from_ne_false (fits k)
        (λ no. both_ways (in_scales counts s) (list_all_at fits (range_with_len 0 4) k 0 low (ap fits (get_or-range_with_len 0 4 k 0 low ∙ zero-add k) ∙ no)) is)

    pub in_scales_spelt : length s.attributes ≡ 4 → Spelt s
    in_scales_spelt four = record {
      four = four;
      bytes = λ k.
          ⊎_elim
          (λ (low : k < 4). value_byte k (attribute_of s k) (fits_at k low))
          (λ (past : 4 ≤ k). rw (slice_get_past s.attributes k (omega (arith, four, past))) (omega arith))
          (cases_lt k 4);
    }

-- the stamp that is read back from what lists a stamp
abbrev pub stamp_back : Stamp → Stamp
stamp_back s = stamp_by (kind_number s.kind) (attribute_of s 0) (attribute_of s 1) (attribute_of s 2) (attribute_of s 3)

-- where it has four attributes, it is that stamp
kind_back : (k : Kind) → kind_of (kind_number k) ≡ k
kind_back Subject = refl
kind_back Object = refl

abbrev read : List (Option ℕ) → ℕ → Option ℕ
read values k = unwrap_or (slice_get values k) None

four_back : (values : List (Option ℕ)) → length values ≡ 4 → read values 0 ∷ read values 1 ∷ read values 2 ∷ read values 3 ∷ [] ≡ values
four_back [] long = absurd (omega (arith, long))
four_back (a ∷ []) long = absurd (omega (arith, long))
four_back (a ∷ b ∷ []) long = absurd (omega (arith, long))
four_back (a ∷ b ∷ c ∷ []) long = absurd (omega (arith, long))
four_back (a ∷ b ∷ c ∷ d ∷ []) long = refl
four_back (a ∷ b ∷ c ∷ d ∷ e ∷ values) long = absurd (omega (arith, long))

pub same_back : (s : Stamp) → Spelt s → stamp_back s ≡ s
same_back s spelt = λ i. record { kind = kind_back s.kind i; attributes = four_back s.attributes spelt.four i }

-- stamps that are each read back so are all read back
pub stamps_back : (stamps : List Stamp) → ((n : ℕ) (s : Stamp) → slice_get stamps n ≡ Some s → stamp_back s ≡ s) → flat_map stamps_in (map stamp_item stamps) ≡ stamps
stamps_back [] each = refl
stamps_back (s ∷ stamps) each = λ i. each 0 s refl i ∷ stamps_back stamps (λ n. each (suc n)) i

pub stamps_long : (stamps : List Stamp) → length (bytes_of (map stamp_item stamps)) ≡ 6 * length stamps
stamps_long [] = omega arith
stamps_long (s ∷ stamps) = omega (arith, length-append (code (stamp_item s)) (bytes_of (map stamp_item stamps)), stamps_long stamps)

-- the bytes of one stamp more
pub stamps_more : (stamps : List Stamp) (k : ℕ) (d : Stamp) → k < length stamps → bytes_of (map stamp_item (take k stamps)) ++ code (stamp_item (get_or stamps k d)) ≡ bytes_of (map stamp_item (take (k + 1) stamps))
stamps_more stamps k d low =
    let s = get_or stamps k d in
    flat_map_more code [] (map stamp_item (take k stamps)) (stamp_item s)
    ∙ ap bytes_of (sym (map-append stamp_item (take k stamps) (s ∷ [])) ∙ ap (map stamp_item) (sym (take_more stamps k d low)))
