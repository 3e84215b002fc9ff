-- How many bytes list a certificate: six for each stamp, and five for each pair of which something is allowed.
use Rattle.std.proofs.Common.{◌≡◌, ℕ, zero, suc, ◌≤◌, ◌+◌, true, false, cond, ltb, List, [], ◌∷◌, length, take, map, get_or, slice_get, Some, None, add-one, refl, sym, ap, ◌∙◌, ⊎_elim, arith}
use Rattle.std.specs.List.{sum_by}
use Rattle.std.proofs.Math.Seq.{take-length}
use Rattle.std.proofs.lemmas.Bool.{cases_Bool}
use Rattle.std.proofs.lemmas.List.Concat.{length-flat_map}
use Rattle.std.proofs.lemmas.List.Sums.{sum_by-cons, sum_by-append, sum_by_more}
use Rattle.std.proofs.lemmas.Option.{slice_get-get_or}
use Rattle.model.specs.declared.stamp.Stamp.{Stamp}
use Rattle.certificates.specs.Certificates.{Certificate, allows}
use Rattle.certificates.specs.Encoding.{code}
use Rattle.certificates.specs.Items.{Item, stamp_by}
use Rattle.writing.specs.Writing.{stamp_item, mask_items, items_below, row_items, written}

-- how many bytes list some items
abbrev items_size : List Item → ℕ
items_size items = sum_by (λ i. length (code i)) items

-- how many say that it is this mask: none where it is empty
abbrev pub mask_size : (mask : ℕ) → ℕ
mask_size mask = cond (ltb 0 mask) 5 0

-- how many say what a stamp is allowed on each
abbrev pub row_size : Certificate → Stamp → ℕ
row_size c s = sum_by (λ t. mask_size (allows c s t)) c.stamps

stamps_size : (stamps : List Stamp) → items_size (map stamp_item stamps) ≡ sum_by (λ s. 6) stamps
stamps_size [] = refl
stamps_size (s ∷ stamps) =
    sum_by-cons (λ i. length (code i)) (stamp_item s) (map stamp_item stamps)
    ∙ ap (λ n. 6 + n) (stamps_size stamps)
    ∙ sym (sum_by-cons (λ s. 6) s stamps)

mask_item_size : (u v mask : ℕ) → items_size (mask_items u v mask) ≡ mask_size mask
mask_item_size u v mask =
    ⊎_elim
    (λ (some : ltb 0 mask ≡ true). rw some refl)
    (λ (none : ltb 0 mask ≡ false). rw none refl)
    (cases_Bool (ltb 0 mask))

-- The items of each number, and a size for the stamp of each.
module _ (items : ℕ → List Item) (f : Stamp → ℕ) (stamps : List Stamp) (same : (n : ℕ) (s : Stamp) → slice_get stamps n ≡ Some s → items_size (items n) ≡ f s) (d : Stamp) where
  below_size : (n : ℕ) → n ≤ length stamps → items_size (items_below items n) ≡ sum_by f (take n stamps)
  unfolding items_below
  below_size zero low = refl
  below_size (suc n) low =
      sum_by-append (λ i. length (code i)) (items_below items n) (items n)
      ∙ ap (λ k. k + items_size (items n)) (below_size n (omega (arith, low)))
      ∙ ap (λ k. sum_by f (take n stamps) + k) (same n (get_or stamps n d) (slice_get-get_or stamps n d (omega (arith, low))))
      ∙ sym (sum_by_more f stamps n d (omega (arith, low)))
      ∙ ap (λ k. sum_by f (take k stamps)) (add-one n)

  all_size : items_size (items_below items (length stamps)) ≡ sum_by f stamps
  all_size = below_size (length stamps) (omega arith) ∙ ap (sum_by f) (take-length stamps)

module _ (c : Certificate) where
  -- what is taken for a stamp where there is none
  any_stamp : Stamp
  any_stamp = stamp_by 1 None None None None

  row_items_size : (u : ℕ) (s : Stamp) → slice_get c.stamps u ≡ Some s → items_size (row_items c u) ≡ row_size c s
  row_items_size u s at = all_size _ (λ t. mask_size (allows c s t)) c.stamps (λ v t there. rw (at, there) (mask_item_size u v (allows c s t))) any_stamp

  pub written_size : length (written c) ≡ sum_by (λ s. 6) c.stamps + sum_by (row_size c) c.stamps
  written_size =
      length-flat_map code _
      ∙ sum_by-append (λ i. length (code i)) (map stamp_item c.stamps) (items_below (row_items c) (length c.stamps))
      ∙ ap (λ n. n + items_size (items_below (row_items c) (length c.stamps))) (stamps_size c.stamps)
      ∙ ap (λ n. sum_by (λ s. 6) c.stamps + n) (all_size (row_items c) (row_size c) c.stamps row_items_size any_stamp)
