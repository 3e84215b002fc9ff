-- What two edits of a list of records make of its cells: another mask in a record, and one record less.
use Rattle.std.proofs.Common.{◌≡◌, ℕ, suc, ◌<◌, ◌≤◌, List, length, set, sym, refl, ap, ◌∙◌, subst, ⊎_elim, arith, length-set, get_or-set_other, get_or-set_same}
use Rattle.std.proofs.lemmas.Bool.{cases_eq}
use Rattle.stores.specs.declared.record.Record.{Record}
use Rattle.stores.specs.Matrices.{written, on_names}
use Rattle.stores.specs.Records.{no_record, at, Of, Full, Apart, Absent}
use Rattle.stores.proofs.Listing.{first, of_absent, of_cell, apart_both, same_cell}
use Rattle.stores.proofs.Writing.{written_by}

-- at one place, and at another
at_same : (xs : List Record) (i : ℕ) (r : Record) → i < length xs → at (set xs i r) i ≡ r
at_same xs i r h = get_or-set_same xs i r no_record h

at_other : (xs : List Record) (i j : ℕ) (r : Record) → (j ≡ i → ⊥) → at (set xs i r) j ≡ at xs j
at_other xs i j r ne = get_or-set_other xs i j r no_record ne

-- what holds of r, and of all records below n, holds of all below n once r is set
each_set : (P : Record → Type 0) (xs : List Record) (n i : ℕ) (r : Record) → i < length xs → P r → ((j : ℕ) → j < n → (j ≡ i → ⊥) → P (at xs j)) → (j : ℕ) → j < n → P (at (set xs i r) j)
each_set P xs n i r h here others j lt =
    ⊎_elim
    (λ (same : j ≡ i). subst (λ k. P (at (set xs i r) k)) (sym same) (subst P (sym (at_same xs i r h)) here))
    (λ (other : j ≡ i → ⊥). subst P (sym (at_other xs i j r other)) (others j lt other))
    (cases_eq j i)

-- Another mask in the record at i.
module _ (xs : List Record) (n i m : ℕ) (long : n ≤ length xs) (full : Full xs n) (apart : Apart xs n) (lt : i < n) where
  abbrev changed : Record
  changed = record { row = (at xs i).row; column = (at xs i).column; mask = m }

  abbrev ys : List Record
  ys = set xs i changed

  inside : i < length xs
  inside = omega arith

  long_ys : n ≤ length ys
  long_ys = rw (length-set xs i changed) long

  -- no record changes its cell
  same_of : (j s o : ℕ) → Of (at ys j) s o → Of (at xs j) s o
  same_of j s o =
      ⊎_elim
      (λ (same : j ≡ i). rw same (subst (λ r. Of r s o → Of (at xs i) s o) (sym (at_same xs i changed inside)) (λ of. of)))
      (λ (other : j ≡ i → ⊥). subst (λ r. Of r s o → Of (at xs j) s o) (sym (at_other xs i j changed other)) (λ of. of))
      (cases_eq j i)

  of_same : (j s o : ℕ) → Of (at xs j) s o → Of (at ys j) s o
  of_same j s o =
      ⊎_elim
      (λ (same : j ≡ i). rw same (subst (λ r. Of (at xs i) s o → Of r s o) (sym (at_same xs i changed inside)) (λ of. of)))
      (λ (other : j ≡ i → ⊥). subst (λ r. Of (at xs j) s o → Of r s o) (sym (at_other xs i j changed other)) (λ of. of))
      (cases_eq j i)

  apart_ys : Apart ys n
  apart_ys a b ab bn of =
      let left = same_of a (at ys a).row (at ys a).column (refl, refl) in
      let right = same_of b (at ys a).row (at ys a).column of in
      apart a b ab bn (right.0 ∙ sym left.0, right.1 ∙ sym left.1)

  pub mask_changed : on_names (first ys n) ≡ written (on_names (first xs n)) (at xs i).row (at xs i).column m
  mask_changed =
      written_by (first xs n) (first ys n) (at xs i).row (at xs i).column m (full i lt).0 (full i lt).1
      (of_cell ys n i _ _ long_ys apart_ys lt (of_same i _ _ (refl, refl)) ∙ ap (λ r. r.mask) (at_same xs i changed inside))
      (λ a b _ _ other.
      same_cell xs ys n n a b long long_ys apart apart_ys
      (λ j h of. (j, h, at_other xs i j changed (λ same. other (rw same at (sym of.0), rw same at (sym of.1)))))
      (λ none j h of. none j h (same_of j a b of)))

-- One record less: the last takes its place.
module _ (xs : List Record) (k i : ℕ) (long : suc k ≤ length xs) (full : Full xs (suc k)) (apart : Apart xs (suc k)) (lt : i < suc k) where
  abbrev ws : List Record
  ws = set xs i (at xs k)

  within : i < length xs
  within = omega arith

  long_ws : k ≤ length ws
  long_ws = rw (length-set xs i (at xs k)) (omega arith)

  -- two records of the old list that stand in the new one
  clash : (a b j l : ℕ) → at ws a ≡ at xs j → at ws b ≡ at xs l → j < suc k → l < suc k → (j ≡ l → ⊥) → Of (at ws b) (at ws a).row (at ws a).column → ⊥
  clash a b j l pa pb hj hl ne of =
      apart_both xs (suc k) j l apart hj hl ne
      (subst (λ q. Of (at xs l) q.row q.column) pa (subst (λ q. Of q (at ws a).row (at ws a).column) pb of))

  apart_ws : Apart ws k
  apart_ws a b ab bk of =
      ⊎_elim
      (λ (same : a ≡ i).
      clash a b k b (ap (at ws) same ∙ at_same xs i (at xs k) within) (at_other xs i b (at xs k) (λ e. omega (arith, e))) (omega arith) (omega arith) (λ e. omega (arith, e)) of)
      (λ (other : a ≡ i → ⊥).
      ⊎_elim
      (λ (same : b ≡ i).
      clash a b a k (at_other xs i a (at xs k) other) (ap (at ws) same ∙ at_same xs i (at xs k) within) (omega arith) (omega arith) (λ e. omega (arith, e)) of)
      (λ (others : b ≡ i → ⊥).
      clash a b a b (at_other xs i a (at xs k) other) (at_other xs i b (at xs k) others) (omega arith) (omega arith) (λ e. omega (arith, e)) of)
      (cases_eq b i))
      (cases_eq a i)

  -- the cell of the record that goes has none any more
  gone : Absent ws k (at xs i).row (at xs i).column
  gone j h of =
      ⊎_elim
      (λ (same : j ≡ i).
      apart_both xs (suc k) i k apart lt (omega arith) (λ e. omega (arith, e))
      (subst (λ q. Of q (at xs i).row (at xs i).column) (ap (at ws) same ∙ at_same xs i (at xs k) within) of))
      (λ (other : j ≡ i → ⊥).
      apart_both xs (suc k) i j apart lt (omega arith) (λ e. other (sym e))
      (subst (λ q. Of q (at xs i).row (at xs i).column) (at_other xs i j (at xs k) other) of))
      (cases_eq j i)

  pub record_removed : on_names (first ws k) ≡ written (on_names (first xs (suc k))) (at xs i).row (at xs i).column 0
  record_removed =
      written_by (first xs (suc k)) (first ws k) (at xs i).row (at xs i).column 0 (full i lt).0 (full i lt).1
      (of_absent ws k _ _ long_ws gone)
      (λ a b _ _ other.
      same_cell xs ws (suc k) k a b long long_ws apart apart_ws
      (λ j h of.
      let moved : j ≡ i → ⊥ = λ same. other (rw same at (sym of.0), rw same at (sym of.1)) in
      ⊎_elim
      (λ (last : j ≡ k). (i, omega (arith, moved), at_same xs i (at xs k) within ∙ ap (at xs) (sym last)))
      (λ (inner : j ≡ k → ⊥). (j, omega (arith, inner), at_other xs i j (at xs k) moved))
      (cases_eq j k))
      (λ none. each_set (λ q. Of q a b → ⊥) xs k i (at xs k) within (none k (omega arith)) (λ j h _. none j (omega arith))))
