-- What a list of records says of a cell, and how many cells it fills.
use Rattle.std.proofs.Common.{◌≡◌, ℕ, zero, suc, ◌+◌, ◌<◌, ◌≤◌, ◌⊎◌, true, false, Some, None, eqb, List, length, take, sym, refl, ap, ◌∙◌, subst, inl, inr, ⊎_elim, not-suc-le-zero, add-one, arith, get_or-take}
use Rattle.std.proofs.lemmas.List.{length-take-le}
use Rattle.std.proofs.lemmas.List.Sums.{fold_more, fails_before_first}
use Rattle.std.proofs.lemmas.List.Quantifiers.{position-Some}
use Rattle.std.proofs.lemmas.Option.{none-some}
use Rattle.std.specs.List.{position, position_or_len}
use Rattle.std.proofs.lemmas.Bool.{cases_eq, cases_lt, lt-ltb, eq-eqb, eqb-true, and_parts}
use Rattle.stores.specs.declared.record.Record.{Record}
use Rattle.stores.specs.Matrices.{Matrix, blank, on_names, some, one_if, count}
use Rattle.stores.specs.Records.{no_record, at, Of, is_of, put, matrix_of, Full, Apart, Absent, Lists}
use Rattle.stores.proofs.Counting.{count_blank, count_written, count_on_names}
use Rattle.stores.proofs.Writing.{written_here, written_row, written_column, at_names, empty_named}

-- the matrix of the first n
abbrev pub first : List Record → ℕ → Matrix
first xs n = matrix_of (take n xs)

pub first_more : (xs : List Record) (n : ℕ) → n < length xs → first xs (suc n) ≡ put (first xs n) (at xs n)
first_more xs n h = rw add-one at (fold_more put blank xs n no_record h)

-- a record leaves every cell but its own
pub beside : (f : Matrix) (r : Record) (s o : ℕ) → (Of r s o → ⊥) → put f r s o ≡ f s o
beside f r s o ne =
    ⊎_elim
    (λ (row : s ≡ r.row). written_column f _ _ _ s o (λ (column : o ≡ r.column). ne (sym row, sym column)))
    (λ (other : s ≡ r.row → ⊥). written_row f _ _ _ s o other)
    (cases_eq s r.row)

pub of_absent : (xs : List Record) (n s o : ℕ) → n ≤ length xs → Absent xs n s o → first xs n s o ≡ 0
of_absent xs zero s o h none = refl
of_absent xs (suc n) s o h none =
    ap (λ (f : Matrix). f s o) (first_more xs n h)
    ∙ (beside (first xs n) (at xs n) s o (none n (omega arith))
    ∙ of_absent xs n s o (omega arith) (λ i lt. none i (omega arith)))

pub of_present : (xs : List Record) (n i : ℕ) → n ≤ length xs → Apart xs n → i < n → first xs n (at xs i).row (at xs i).column ≡ (at xs i).mask
of_present xs zero i h apart lt = absurd (not-suc-le-zero lt)
of_present xs (suc n) i h apart lt =
    ap (λ (f : Matrix). f (at xs i).row (at xs i).column) (first_more xs n h)
    ∙ ⊎_elim
    (λ (same : i ≡ n). rw same (written_here (first xs n) (at xs n).row (at xs n).column (at xs n).mask))
    (λ (other : i ≡ n → ⊥).
    beside (first xs n) (at xs n) _ _ (apart i n (omega (arith, other)) (omega arith))
    ∙ of_present xs n i (omega arith) (λ j k jk kn. apart j k jk (omega arith)) (omega (arith, other)))
    (cases_eq i n)

-- one more record that is of another cell
pub absent_more : (xs : List Record) (n s o : ℕ) → Absent xs n s o → (Of (at xs n) s o → ⊥) → Absent xs (suc n) s o
absent_more xs n s o none other i lt =
    ⊎_elim
    (λ (same : i ≡ n). rw same other)
    (λ (below : i ≡ n → ⊥). none i (omega (arith, below)))
    (cases_eq i n)

-- Either some record is of a cell, or none is.
pub look : (xs : List Record) (n s o : ℕ) → ((i : ℕ) × (i < n) × Of (at xs i) s o) ⊎ Absent xs n s o
look xs zero s o = inr (λ i lt. absurd (not-suc-le-zero lt))
look xs (suc n) s o =
    ⊎_elim
    (λ found. inl (found.0, omega (arith, found.1), found.2))
    (λ none.
    ⊎_elim
    (λ (row : (at xs n).row ≡ s).
    ⊎_elim
    (λ (column : (at xs n).column ≡ o). inl (n, omega arith, (row, column)))
    (λ (other : (at xs n).column ≡ o → ⊥). inr (absent_more xs n s o none (λ of. other of.1)))
    (cases_eq (at xs n).column o))
    (λ (other : (at xs n).row ≡ s → ⊥). inr (absent_more xs n s o none (λ of. other of.0)))
    (cases_eq (at xs n).row s))
    (look xs n s o)

-- what the test says
is_of_from : (r : Record) (s o : ℕ) → Of r s o → is_of s o r ≡ true
is_of_from r s o of = rw (eq-eqb r.row s of.0, eq-eqb r.column o of.1) refl

of_from : (r : Record) (s o : ℕ) → is_of s o r ≡ true → Of r s o
of_from r s o h =
    let both = and_parts (eqb r.row s) (eqb r.column o) h in
    (eqb-true r.row s both.0, eqb-true r.column o both.1)

-- The first place of a cell among the first n, if there is one.
module _ (xs : List Record) (n s o : ℕ) (long : n ≤ length xs) where
  pub found_at : (i : ℕ) → position (is_of s o) (take n xs) ≡ Some i → (i < n) × Of (at xs i) s o
  found_at i e =
      let here = position-Some (is_of s o) (take n xs) i no_record e in
      let lt : i < n = subst (λ k. i < k) (length-take-le n xs long) here.0 in
      (lt, subst (λ r. Of r s o) (get_or-take n xs i no_record lt) (of_from (at (take n xs) i) s o here.1))

  pub found_nowhere : position (is_of s o) (take n xs) ≡ None → Absent xs n s o
  found_nowhere e i lt of =
      let first_place = position_or_len (is_of s o) (take n xs) in
      ⊎_elim
      (λ (inside : first_place < length (take n xs)). none-some first_place (sym e ∙ rw (lt-ltb first_place (length (take n xs)) inside) refl))
      (λ (past : length (take n xs) ≤ first_place).
      let no : is_of s o (at (take n xs) i) ≡ false = fails_before_first (is_of s o) (take n xs) i no_record (omega (arith, length-take-le n xs long)) in
      let yes : is_of s o (at xs i) ≡ true = is_of_from (at xs i) s o of in
      absurd (cc (get_or-take n xs i no_record lt)))
      (cases_lt first_place (length (take n xs)))

pub of_cell : (xs : List Record) (n i s o : ℕ) → n ≤ length xs → Apart xs n → i < n → Of (at xs i) s o → first xs n s o ≡ (at xs i).mask
of_cell xs n i s o h apart lt of =
    let P : ℕ → ℕ → Type 0 = λ a b. first xs n a b ≡ (at xs i).mask in
    subst (λ b. P s b) of.1 (subst (λ a. P a (at xs i).column) of.0 (of_present xs n i h apart lt))

-- apart in either order
pub apart_both : (xs : List Record) (n i j : ℕ) → Apart xs n → i < n → j < n → (i ≡ j → ⊥) → Of (at xs j) (at xs i).row (at xs i).column → ⊥
apart_both xs n i j apart hi hj ne of =
    ⊎_elim
    (λ (up : i < j). apart i j up hj of)
    (λ (down : j ≤ i). apart j i (omega (arith, ne)) hi (sym of.0, sym of.1))
    (cases_lt i j)

-- A cell is the same in two lists if each record of it in the first stands somewhere in the second, and none comes in.
pub same_cell : (xs ys : List Record) (n k s o : ℕ) → n ≤ length xs → k ≤ length ys → Apart xs n → Apart ys k
    → ((i : ℕ) → i < n → Of (at xs i) s o → (j : ℕ) × (j < k) × (at ys j ≡ at xs i))
    → (Absent xs n s o → Absent ys k s o)
    → first ys k s o ≡ first xs n s o
same_cell xs ys n k s o hx hy ax ay stays none =
    ⊎_elim
    (λ found.
    let j = stays found.0 found.1 found.2 in
    let of : Of (at ys j.0) s o = subst (λ r. Of r s o) (sym j.2) found.2 in
    of_cell ys k j.0 s o hy ay j.1 of
    ∙ (ap (λ r. r.mask) j.2 ∙ sym (of_cell xs n found.0 s o hx ax found.1 found.2)))
    (λ absent. of_absent ys k s o hy (none absent) ∙ sym (of_absent xs n s o hx absent))
    (look xs n s o)

-- As many cells are filled as there are records.
count_first : (xs : List Record) (n : ℕ) → n ≤ length xs → Full xs n → Apart xs n → count (first xs n) ≡ n
count_first xs zero h full apart = count_blank
count_first xs (suc n) h full apart =
    let f = first xs n in
    let r = at xs n in
    let here = full n (omega arith) in
    let rest : count f ≡ n = count_first xs n (omega arith) (λ i lt. full i (omega arith)) (λ i j ij jn. apart i j ij (omega arith)) in
    let empty : f r.row r.column ≡ 0 = of_absent xs n _ _ (omega arith) (λ i lt of. apart i n lt (omega arith) (sym of.0, sym of.1)) in
    let none : one_if (some (f r.row r.column)) ≡ 0 = rw empty refl in
    let one : one_if (some r.mask) ≡ 1 = rw (lt-ltb 0 r.mask here.2) refl in
    let change : count (put f r) + one_if (some (f r.row r.column)) ≡ count f + one_if (some r.mask) = count_written f _ _ _ here.0 here.1 in
    let now-more : count (first xs (suc n)) ≡ count (put f r) = ap count (first_more xs n h) in
    omega arith

pub count_records : (xs : List Record) (n : ℕ) → n ≤ length xs → Full xs n → Apart xs n → count (on_names (first xs n)) ≡ n
count_records xs n h full apart = count_on_names (first xs n) ∙ count_first xs n h full apart

-- The first n are exactly the non-empty cells of their matrix, each once.
module _ (xs : List Record) (n : ℕ) (long : n ≤ length xs) (full : Full xs n) (apart : Apart xs n) where
  within : (i : ℕ) → i < length (take n xs) → i < n
  within i lt = subst (λ k. i < k) (length-take-le n xs long) lt

  same_at : (i : ℕ) → i < n → at (take n xs) i ≡ at xs i
  same_at i lt = get_or-take n xs i no_record lt

  each_record : (i : ℕ) → i < n → ((at xs i).row < 64) × ((at xs i).column < 64) × (0 < (at xs i).mask) × (on_names (first xs n) (at xs i).row (at xs i).column ≡ (at xs i).mask)
  each_record i lt =
      let whole = full i lt in
      (whole.0, whole.1, whole.2, at_names (first xs n) _ _ whole.0 whole.1 ∙ of_present xs n i long apart lt)

  every_cell : (s o : ℕ) → 0 < on_names (first xs n) s o → (i : ℕ) × (i < length (take n xs)) × Of (at (take n xs) i) s o
  every_cell s o some =
      ⊎_elim
      (λ found.
      (found.0, subst (λ k. found.0 < k) (sym (length-take-le n xs long)) found.1, subst (λ r. Of r s o) (sym (same_at found.0 found.1)) found.2))
      (λ absent.
      let none : on_names (first xs n) s o ≡ 0 = empty_named (first xs n) s o (of_absent xs n s o long absent) in
      absurd (omega arith))
      (look xs n s o)

  once_each : (i j : ℕ) → i < n → j < n → Of (at xs i) (at xs j).row (at xs j).column → i ≡ j
  once_each i j hi hj of =
      ⊎_elim
      (λ (same : i ≡ j). same)
      (λ (other : i ≡ j → ⊥). absurd (apart_both xs n j i apart hj hi (λ e. other (sym e)) of))
      (cases_eq i j)

  pub lists_exactly : Lists (take n xs) (on_names (first xs n))
  lists_exactly = record {
    each = λ i lt.
        let h = within i lt in
        subst (λ r. (r.row < 64) × (r.column < 64) × (0 < r.mask) × (on_names (first xs n) r.row r.column ≡ r.mask)) (sym (same_at i h)) (each_record i h);
    every = every_cell;
    once = λ i j hi hj of.
        let ki = within i hi in
        let kj = within j hj in
        once_each i j ki kj (subst (λ q. Of (at xs i) q.row q.column) (same_at j kj) (subst (λ r. Of r (at (take n xs) j).row (at (take n xs) j).column) (same_at i ki) of));
  }
