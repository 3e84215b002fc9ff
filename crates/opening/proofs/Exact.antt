-- The state that well-formed items open has exactly the entries and rights that they list.
use Rattle.std.proofs.Common.{◌≡◌, ◌≢◌, ℕ, ◌<◌, true, false, cond, ◌&&◌, ◌||◌, eqb, List, [], ◌∷◌, ◌++◌, is_some, Some, None, Option, ◌⊎◌, inl, inr, ⊎_elim, sym, ap, ◌∙◌, subst, arith, ◌↔◌}
use Rattle.std.proofs.lemmas.Bool.{and_parts, and_from, eqb-true, eq-eqb, ne_eqb, cases_eq, cases_Bool, or_cases, or_right, not-true, not-false, both_ways, lt-ltb, ltb-true}
use Rattle.std.proofs.Math.Bool.{and-true, or-false}
use Rattle.std.proofs.lemmas.List.Elements.{Contains-append_left, Contains-push, Contains-push_cases}
use Rattle.std.specs.List.{Any, Contains}
use Rattle.model.specs.declared.counts.Counts.{Counts}
use Rattle.model.specs.declared.kind.Kind.{Kind}
use Rattle.model.specs.declared.stamp.Stamp.{Stamp}
use Rattle.model.specs.Masks.{has, with_right}
use Rattle.model.specs.Stamps.{stamp_of}
use Rattle.model.proofs.Rights.{with_has, holds_nothing}
use Rattle.model.proofs.Unbroken.{to_unbroken}
use Rattle.protection.specs.Operations.{with_entry}
use Rattle.protection.specs.States.{Protection, nothing, stands}
use Rattle.stores.specs.Matrices.{Matrix, written}
use Rattle.tapes.proofs.ItemTapes.{kept_of_all}
use Rattle.opening.specs.Items.{Item, entry, right, with_item, opened}
use Rattle.opening.specs.Opened.{Lists, Exactly}
use Rattle.opening.specs.Rules.{item_rules, broken_after, well_formed}
use Rattle.opening.proofs.Forming.{opened_push}

-- ---- items that are listed, when one comes at the end

abbrev Listed : List Item → ℕ → Stamp → Type 0
Listed items n stamp = Any (Lists n stamp) items

listed_before : (items : List Item) (i : Item) (n : ℕ) (stamp : Stamp) → Listed items n stamp → Listed (items ++ i ∷ []) n stamp
listed_before items i n stamp l =
    let there = Contains-append_left items (i ∷ []) l.1 (l.0, l.2, l.3) in
    (there.0, l.1, there.1, there.2, l.4)

listed_last : (items : List Item) (i : Item) (n : ℕ) (stamp : Stamp) → Lists n stamp i → Listed (items ++ i ∷ []) n stamp
listed_last items i n stamp l =
    let there = Contains-push items i in
    (there.0, i, there.1, there.2, l)

listed_cases : (items : List Item) (i : Item) (n : ℕ) (stamp : Stamp) → Listed (items ++ i ∷ []) n stamp → Listed items n stamp ⊎ Lists n stamp i
listed_cases items i n stamp l =
    ⊎_elim
    (λ there. inl (there.0, l.1, there.1, there.2, l.4))
    (λ (is : i ≡ l.1). inr (subst (Lists n stamp) (sym is) l.4))
    (Contains-push_cases items i l.1 (l.0, l.2, l.3))

-- ---- one item more

some_of : (o : Option Stamp) → is_some o ≡ false → (stamp : Stamp) → o ≡ Some stamp → ⊥
some_of o none stamp some = cc

module _ (items : List Item) (p : Protection) (exact : Exactly items p) where
  -- an entry, where none of its name stands
  module _ (kind : Kind) (n : ℕ) (a b c d : Option ℕ) (free : stands p n ≡ false) where
    abbrev added : Item
    added = entry kind n a b c d

    entry_listed : (m : ℕ) (stamp : Stamp) → with_entry p.entry n (Some (stamp_of kind a b c d)) m ≡ Some stamp → Listed (items ++ added ∷ []) m stamp
    entry_listed m stamp h =
        ⊎_elim
        (λ (same : m ≡ n).
        let is : Some (stamp_of kind a b c d) ≡ Some stamp = sym (ap (λ t. cond t (Some (stamp_of kind a b c d)) (p.entry m)) (eq-eqb m n same)) ∙ h in
        let stamp_is : stamp_of kind a b c d ≡ stamp = cc in
        listed_last items added m stamp (sym same, stamp_is))
        (λ (other : m ≢ n).
        listed_before items added m stamp ((exact.entries m stamp).0 (sym (ap (λ t. cond t (Some (stamp_of kind a b c d)) (p.entry m)) (ne_eqb m n other)) ∙ h)))
        (cases_eq m n)

    listed_entry : (m : ℕ) (stamp : Stamp) → Listed (items ++ added ∷ []) m stamp → with_entry p.entry n (Some (stamp_of kind a b c d)) m ≡ Some stamp
    listed_entry m stamp l =
        ⊎_elim
        (λ (before : Listed items m stamp).
        let stood = (exact.entries m stamp).1 before in
        let other : m ≢ n = λ same. some_of (p.entry n) free stamp (ap p.entry (sym same) ∙ stood) in
        rw (ne_eqb m n other) stood)
        (λ (last : Lists m stamp added). rw (eq-eqb m n (sym last.0)) (ap (λ s. Some s) last.1))
        (listed_cases items added m stamp l)

    entry_rights : (r s o : ℕ) → (has (p.cells s o) r ≡ true) ↔ Contains (items ++ added ∷ []) (right r s o)
    entry_rights r s o = (
      λ h. Contains-append_left items (added ∷ []) (right r s o) ((exact.rights r s o).0 h),
      λ l.
          ⊎_elim
          (λ (before : Contains items (right r s o)). (exact.rights r s o).1 before)
          (λ (is : added ≡ right r s o). cc)
          (Contains-push_cases items added (right r s o) l),
    )

    pub entry_exact : Exactly (items ++ added ∷ []) (with_item p added)
    entry_exact = record { entries = λ m stamp. (entry_listed m stamp, listed_entry m stamp); rights = entry_rights }

-- a right more in one cell
right_here : (r q : ℕ) (m : ℕ) → r < 16 → has (with_right m r) q ≡ (has m q || eqb q r)
right_here r q m low = with_has m r q ∙ ap (λ t. has m q || t) (ap (λ t. eqb q r && t) (lt-ltb r 16 low) ∙ and-true (eqb q r))

right_has : (f : Matrix) (r s o q a b : ℕ) → r < 16 → has (written f s o (with_right (f s o) r) a b) q ≡ (has (f a b) q || ((eqb a s && eqb b o) && eqb q r))
right_has f r s o q a b low =
    ⊎_elim
    (λ (here : (eqb a s && eqb b o) ≡ true).
    let parts = and_parts _ _ here in
    let cell : f s o ≡ f a b = λ i. f (sym (eqb-true a s parts.0) i) (sym (eqb-true b o parts.1) i) in
    rw here (right_here r q (f s o) low ∙ ap (λ m. has m q || eqb q r) cell))
    (λ (there : (eqb a s && eqb b o) ≡ false). rw there (sym (or-false (has (f a b) q))))
    (cases_Bool (eqb a s && eqb b o))

module _ (items : List Item) (p : Protection) (exact : Exactly items p) where
  -- a right
  module _ (r s o : ℕ) (low : r < 16) where
    abbrev given : Item
    given = right r s o

    right_entries : (n : ℕ) (stamp : Stamp) → (p.entry n ≡ Some stamp) ↔ Listed (items ++ given ∷ []) n stamp
    right_entries n stamp = (
      λ h. listed_before items given n stamp ((exact.entries n stamp).0 h),
      λ l.
          ⊎_elim
          (λ (before : Listed items n stamp). (exact.entries n stamp).1 before)
          (λ (last : Lists n stamp given). absurd last)
          (listed_cases items given n stamp l),
    )

    right_given : (q a b : ℕ) → has (written p.cells s o (with_right (p.cells s o) r) a b) q ≡ true → Contains (items ++ given ∷ []) (right q a b)
    right_given q a b h =
        ⊎_elim
        (λ (before : has (p.cells a b) q ≡ true). Contains-append_left items (given ∷ []) (right q a b) ((exact.rights q a b).0 before))
        (λ (last : ((eqb a s && eqb b o) && eqb q r) ≡ true).
        let parts = and_parts _ _ last in
        let cell = and_parts _ _ parts.0 in
        let is : given ≡ right q a b = λ i. right (sym (eqb-true q r parts.1) i) (sym (eqb-true a s cell.0) i) (sym (eqb-true b o cell.1) i) in
        subst (Contains (items ++ given ∷ [])) is (Contains-push items given))
        (or_cases _ _ (sym (right_has p.cells r s o q a b low) ∙ h))

    given_right : (q a b : ℕ) → Contains (items ++ given ∷ []) (right q a b) → has (written p.cells s o (with_right (p.cells s o) r) a b) q ≡ true
    given_right q a b l =
        right_has p.cells r s o q a b low
        ∙ ⊎_elim
        (λ (before : Contains items (right q a b)). ap (λ t. t || ((eqb a s && eqb b o) && eqb q r)) ((exact.rights q a b).1 before))
        (λ (is : given ≡ right q a b).
        let right_is : r ≡ q = cc in
        let row_is : s ≡ a = cc in
        let column_is : o ≡ b = cc in
        or_right (has (p.cells a b) q) _ (and_from _ _ (and_from _ _ (eq-eqb a s (sym row_is)) (eq-eqb b o (sym column_is))) (eq-eqb q r (sym right_is))))
        (Contains-push_cases items given (right q a b) l)

    pub right_exact : Exactly (items ++ given ∷ []) (with_item p given)
    right_exact = record { entries = right_entries; rights = λ q a b. (right_given q a b, given_right q a b) }

-- ---- all items

nothing_exact : Exactly [] nothing
nothing_exact = record {
  entries = λ n stamp. (λ h. cc, λ l. absurd (omega (arith, l.2)));
  rights = λ r s o. (λ h. absurd (both_ways _ (holds_nothing r) h), λ l. absurd (omega (arith, l.1)));
}

module _ (c : Counts) (limit : ℕ) where
  item_exact : (items : List Item) (i : Item) → Exactly items (opened items) → broken_after c limit items i ≡ None → Exactly (items ++ i ∷ []) (with_item (opened items) i)
  item_exact items (entry kind n a b c' d) exact ok =
      let kept = to_unbroken (item_rules c limit (opened items) (entry kind n a b c' d)) ok in
      entry_exact items (opened items) exact kind n a b c' d (not-true _ (not-false _ kept.1.0))
  item_exact items (right r s o) exact ok =
      let kept = to_unbroken (item_rules c limit (opened items) (right r s o)) ok in
      right_exact items (opened items) exact r s o (ltb-true r 16 (and_parts _ _ (not-false _ kept.0)).0)

  pub opened_exact : (items : List Item) → well_formed c limit items ≡ true → Exactly items (opened items)
  opened_exact items formed =
      kept_of_all (broken_after c limit) (λ l. Exactly l (opened l))
      (λ before i exact ok. subst (Exactly (before ++ i ∷ [])) (sym (opened_push before i)) (item_exact before i exact ok))
      nothing_exact items formed
