-- What items list, one after the other, is exactly what each of them lists and adds.
use Rattle.std.proofs.Common.{◌≡◌, ℕ, zero, suc, ◌<◌, true, false, ◌&&◌, ◌||◌, eqb, List, [], ◌∷◌, ◌++◌, length, get_or, fold, flat_map, bit_or, ◌⊎◌, inl, inr, ⊎_elim, refl, sym, ap, ◌∙◌, subst, arith, append_assoc, append-nil}
use Rattle.std.proofs.lemmas.Bool.{and_parts, and_from, eqb-true, eq-eqb, cases_Bool, or_cases, or_right, both_ways}
use Rattle.std.proofs.Math.Bool.{or-false}
use Rattle.std.specs.List.{Any}
use Rattle.model.specs.Masks.{has}
use Rattle.model.proofs.Containing.{joined_has}
use Rattle.model.proofs.Rights.{holds_nothing}
use Rattle.stores.specs.Matrices.{Matrix, written}
use Rattle.certificates.specs.Certificates.{Certificate, no_stamps}
use Rattle.certificates.specs.Items.{Item, stamp, allow, stamp_by, mask_of, with_item, listed_by}
use Rattle.certificates.specs.Listing.{stamps_in, Adds, ListedExactly}

-- ---- stamps

stamps_after : (c : Certificate) (items : List Item) → (fold with_item c items).stamps ≡ c.stamps ++ flat_map stamps_in items
stamps_after c [] = sym (append-nil c.stamps)
stamps_after c (stamp kind a b x d ∷ items) =
    stamps_after (with_item c (stamp kind a b x d)) items
    ∙ append_assoc c.stamps (stamp_by kind a b x d ∷ []) (flat_map stamps_in items)
stamps_after c (allow u v high low ∷ items) = stamps_after (with_item c (allow u v high low)) items

-- ---- rights

-- a mask more between two numbers
added_has : (f : Matrix) (u v mask m n r : ℕ) → has (written f u v (bit_or (f u v) mask) m n) r ≡ (has (f m n) r || ((eqb m u && eqb n v) && has mask r))
added_has f u v mask m n r =
    ⊎_elim
    (λ (here : (eqb m u && eqb n v) ≡ true).
    let parts = and_parts _ _ here in
    let cell : f u v ≡ f m n = λ i. f (sym (eqb-true m u parts.0) i) (sym (eqb-true n v parts.1) i) in
    rw here (joined_has (f u v) mask r ∙ ap (λ x. has x r || has mask r) cell))
    (λ (there : (eqb m u && eqb n v) ≡ false). rw there (sym (or-false (has (f m n) r))))
    (cases_Bool (eqb m u && eqb n v))

module _ (m n r : ℕ) where
  abbrev Held : Certificate → Type 0
  Held c = has (c.masks m n) r ≡ true

  -- after one item
  held_by : (c : Certificate) (i : Item) → Held (with_item c i) → Held c ⊎ Adds m n r i
  held_by c (stamp kind a b x d) h = inl h
  held_by c (allow u v high low) h =
      ⊎_elim
      (λ (before : has (c.masks m n) r ≡ true). inl before)
      (λ (here : ((eqb m u && eqb n v) && has (mask_of high low) r) ≡ true).
      let parts = and_parts _ _ here in
      let cell = and_parts _ _ parts.0 in
      inr (sym (eqb-true m u cell.0), sym (eqb-true n v cell.1), parts.1))
      (or_cases _ _ (sym (added_has c.masks u v (mask_of high low) m n r) ∙ h))

  held_still : (c : Certificate) (i : Item) → Held c → Held (with_item c i)
  held_still c (stamp kind a b x d) h = h
  held_still c (allow u v high low) h =
      added_has c.masks u v (mask_of high low) m n r
      ∙ ap (λ t. t || ((eqb m u && eqb n v) && has (mask_of high low) r)) h

  held_newly : (c : Certificate) (i : Item) → Adds m n r i → Held (with_item c i)
  held_newly c (stamp kind a b x d) adds = absurd adds
  held_newly c (allow u v high low) adds =
      added_has c.masks u v (mask_of high low) m n r
      ∙ or_right (has (c.masks m n) r) _ (and_from _ _ (and_from _ _ (eq-eqb m u (sym adds.0)) (eq-eqb n v (sym adds.1))) adds.2)

  -- the first of some items adds it, or one of the rest does
  first_adds : (i : Item) (items : List Item) → Adds m n r i → Any (Adds m n r) (i ∷ items)
  first_adds i items adds = (0, i, omega arith, refl, adds)

  rest_adds : (i : Item) (items : List Item) → Any (Adds m n r) items → Any (Adds m n r) (i ∷ items)
  rest_adds i items any = let low = any.2 in (suc any.0, any.1, omega (arith, low), any.3, any.4)

  which_adds : (i : Item) (items : List Item) → Any (Adds m n r) (i ∷ items) → Adds m n r i ⊎ Any (Adds m n r) items
  which_adds i items any = by any.0 any.2 any.3
    where
      by : (k : ℕ) → k < length (i ∷ items) → get_or (i ∷ items) k any.1 ≡ any.1 → Adds m n r i ⊎ Any (Adds m n r) items
      by zero low is = inl (subst (Adds m n r) (sym is) any.4)
      by (suc k) low is = inr (k, any.1, omega (arith, low), is, any.4)

  -- after all of them
  held_after : (c : Certificate) (items : List Item) → Held (fold with_item c items) → Held c ⊎ Any (Adds m n r) items
  held_after c [] h = inl h
  held_after c (i ∷ items) h =
      ⊎_elim
      (λ (before : Held (with_item c i)). ⊎_elim (λ (old : Held c). inl old) (λ (adds : Adds m n r i). inr (first_adds i items adds)) (held_by c i before))
      (λ (any : Any (Adds m n r) items). inr (rest_adds i items any))
      (held_after (with_item c i) items h)

  still_after : (c : Certificate) (items : List Item) → Held c → Held (fold with_item c items)
  still_after c [] h = h
  still_after c (i ∷ items) h = still_after (with_item c i) items (held_still c i h)

  newly_after : (c : Certificate) (items : List Item) → Any (Adds m n r) items → Held (fold with_item c items)
  newly_after c [] any = let low = any.2 in absurd (omega (arith, low))
  newly_after c (i ∷ items) any =
      ⊎_elim
      (λ (adds : Adds m n r i). still_after (with_item c i) items (held_newly c i adds))
      (λ (rest : Any (Adds m n r) items). newly_after (with_item c i) items rest)
      (which_adds i items any)

  only_added : (items : List Item) → Held (listed_by items) → Any (Adds m n r) items
  only_added items h =
      ⊎_elim
      (λ (none : has 0 r ≡ true). absurd (both_ways (has 0 r) (holds_nothing r) none))
      (λ (any : Any (Adds m n r) items). any)
      (held_after no_stamps items h)

pub listed_exactly : (items : List Item) → ListedExactly items (listed_by items)
listed_exactly items = record {
  stamps = stamps_after no_stamps items;
  rights = λ m n r. (only_added m n r items, newly_after m n r no_stamps items);
}
