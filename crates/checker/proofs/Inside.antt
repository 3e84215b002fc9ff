-- What the steps of a command leave, place by place, lies within what a closed certificate allows.
use Rattle.std.proofs.Common.{◌≡◌, ℕ, ◌<◌, ◌≤◌, ◌⊎◌, Bool, true, false, cond, ◌||◌, List, length, Some, None, Option, is_some, sym, ap, refl, subst, ◌∙◌, inl, inr, arith}
use Rattle.std.proofs.Math.Bool.{or-false}
use Rattle.std.proofs.lemmas.Bool.{both_ways, false≢true}
use Rattle.model.specs.declared.stamp.Stamp.{Stamp}
use Rattle.model.specs.Masks.{has, Within}
use Rattle.model.proofs.Rights.{holds_nothing}
use Rattle.scheme.specs.Commands.{Command}
use Rattle.protection.specs.Commands.{name_at, run}
use Rattle.protection.specs.Excerpts.{parameter_of, renewed, itself, Distinct}
use Rattle.protection.specs.Places.{cell_after_all, entry_after_all}
use Rattle.protection.specs.Sound.{Sound}
use Rattle.protection.specs.States.{Protection, is_subject}
use Rattle.protection.proofs.Naming.{placed_itself, place_in, named, placed_names}
use Rattle.protection.proofs.Outside.{outside_run, none_renewed, entry_kept}
use Rattle.protection.proofs.Places.{Shaped, run_cell, run_entry}
use Rattle.certificates.specs.Certificates.{Certificate, lists, between, allows}
use Rattle.castings.specs.Castings.{Casting, cast_state}
use Rattle.castings.specs.Closure.{Keeps, Moves, outcome_of}
use Rattle.checker.specs.Containing.{Contains}
use Rattle.checker.proofs.Bounding.{filled_by}
use Rattle.checker.proofs.Monotone.{grows}

-- an entry that stands, with its stamp
abbrev Standing : Option Stamp → Type 0
Standing e = (s : Stamp) × (e ≡ Some s)

standing_some : (e : Option Stamp) → is_some e ≡ true → Standing e
standing_some None h = absurd (false≢true h)
standing_some (Some s) h = (s, refl)

standing_subject : (e : Option Stamp) → is_subject e ≡ true → Standing e
standing_subject None h = absurd (false≢true h)
standing_subject (Some s) h = (s, refl)

-- a cell that holds a right was not emptied
left_full : (b : Bool) (m r : ℕ) → has (cond b 0 m) r ≡ true → (b ≡ false) × (has m r ≡ true)
left_full true m r h = absurd (both_ways (has 0 r) (holds_nothing r) h)
left_full false m r h = (refl, h)

-- a right is allowed between entries that stand only
allowed_row : (c : Certificate) (row column : Option Stamp) (r : ℕ) → has (between c row column) r ≡ true → Standing row
allowed_row c None column r h = absurd (both_ways (has 0 r) (holds_nothing r) h)
allowed_row c (Some u) column r h = (u, refl)

allowed_column : (c : Certificate) (row column : Option Stamp) (r : ℕ) → has (between c row column) r ≡ true → Standing column
allowed_column c None column r h = absurd (both_ways (has 0 r) (holds_nothing r) h)
allowed_column c (Some u) None r h = absurd (both_ways (has 0 r) (holds_nothing r) h)
allowed_column c (Some u) (Some v) r h = (v, refl)

-- what is allowed between two entries, by their stamps
by_stamps : (c : Certificate) (row column : Option Stamp) (s t : Stamp) → row ≡ Some s → column ≡ Some t → between c row column ≡ allows c s t
by_stamps c row column s t rows columns = λ i. between c (rows i) (columns i)

module _ (c : Certificate) (m : Command) (names : List ℕ) (p : Protection) (σ : Casting) (contains : Contains c p) (distinct : Distinct names) (shaped : Shaped (length names) m.steps) (as_cast : (i : ℕ) → i < length names → σ i ≡ p.entry (name_at names i)) (keeps : Keeps c (renewed m.steps) (cast_state c σ) (outcome_of c m σ)) where
  abbrev after : Protection
  after = run m.cards (name_at names) m.steps p

  abbrev out : Protection
  out = outcome_of c m σ

  -- what stands under the name of a parameter is what is cast for it, and so it is afterwards
  cast_for : (x i : ℕ) → parameter_of names x ≡ Some i → σ i ≡ p.entry x
  cast_for x i e = let found = named names x i e in as_cast i found.0 ∙ ap p.entry found.1

  place_for : (x i : ℕ) → parameter_of names x ≡ Some i → place_in names x ≡ i
  place_for x i e = rw e refl

  place_past : (x : ℕ) → parameter_of names x ≡ None → place_in names x ≡ length names
  place_past x e = rw e refl

  entry_of : (x i : ℕ) → parameter_of names x ≡ Some i → after.entry x ≡ out.entry i
  entry_of x i e =
      run_entry m.cards (length names) (name_at names) (place_in names) (placed_names names distinct) m.steps p x shaped
      ∙ ap (λ a. entry_after_all m.cards m.steps a (p.entry x)) (place_for x i e)
      ∙ ap (entry_after_all m.cards m.steps i) (sym (cast_for x i e))
      ∙ sym (run_entry m.cards (length names) itself itself (placed_itself (length names)) m.steps (cast_state c σ) i shaped)

  entry_stays : (x : ℕ) → parameter_of names x ≡ None → after.entry x ≡ p.entry x
  entry_stays x e =
      run_entry m.cards (length names) (name_at names) (place_in names) (placed_names names distinct) m.steps p x shaped
      ∙ ap (λ a. entry_after_all m.cards m.steps a (p.entry x)) (place_past x e)
      ∙ entry_kept m.cards (length names) m.steps (length names) (p.entry x) (omega arith) shaped

  cell_at : (x y a b : ℕ) → place_in names x ≡ a → place_in names y ≡ b → after.cells x y ≡ cell_after_all m.steps a b (p.cells x y)
  cell_at x y a b row column =
      run_cell m.cards (length names) (name_at names) (place_in names) (placed_names names distinct) m.steps p x y shaped
      ∙ ap (λ i. cell_after_all m.steps i (place_in names y) (p.cells x y)) row
      ∙ ap (λ j. cell_after_all m.steps a j (p.cells x y)) column

  cell_of : (x y i j : ℕ) → parameter_of names x ≡ Some i → parameter_of names y ≡ Some j → Within (after.cells x y) (out.cells i j)
  cell_of x y i j row column r h =
      let cast_cell : between c (σ i) (σ j) ≡ between c (p.entry x) (p.entry y) = λ t. between c (cast_for x i row t) (cast_for y j column t) in
      let within : Within (p.cells x y) (between c (σ i) (σ j)) = subst (Within (p.cells x y)) (sym cast_cell) (contains.cells x y) in
      let held = ap (λ n. has n r) (sym (cell_at x y i j (place_for x i row) (place_for y j column))) ∙ h in
      ap (λ n. has n r) (run_cell m.cards (length names) itself itself (placed_itself (length names)) m.steps (cast_state c σ) i j shaped)
      ∙ grows m.steps i j (p.cells x y) (between c (σ i) (σ j)) within r held

  -- a cell with an end outside holds what it held, if it was not emptied
  cell_stays : (x y a b r : ℕ) → place_in names x ≡ a → place_in names y ≡ b → (length names ≤ a) ⊎ (length names ≤ b) → has (after.cells x y) r ≡ true → ((renewed m.steps a || renewed m.steps b) ≡ false) × (has (p.cells x y) r ≡ true)
  cell_stays x y a b r row column beyond h =
      left_full (renewed m.steps a || renewed m.steps b) (p.cells x y) r
      (ap (λ n. has n r) (sym (cell_at x y a b row column ∙ outside_run (length names) m.steps a b (p.cells x y) beyond shaped)) ∙ h)

  past_renewed : renewed m.steps (length names) ≡ false
  past_renewed = none_renewed (length names) m.steps (length names) (omega arith) shaped

  stamps_by : (x : ℕ) (o : Option ℕ) (s : Stamp) → parameter_of names x ≡ o → after.entry x ≡ Some s → lists c s ≡ true
  stamps_by x (Some i) s e stands = keeps.stamps i s (sym (entry_of x i e) ∙ stands)
  stamps_by x None s e stands = contains.stamps x s (sym (entry_stays x e) ∙ stands)

  cells_by : (x y : ℕ) (a b : Option ℕ) (s t : Stamp) (r : ℕ) → parameter_of names x ≡ a → parameter_of names y ≡ b → after.entry x ≡ Some s → after.entry y ≡ Some t → has (after.cells x y) r ≡ true → has (allows c s t) r ≡ true
  cells_by x y (Some i) (Some j) s t r ex ey sx sy h =
      keeps.cells i j s t (sym (entry_of x i ex) ∙ sx) (sym (entry_of y j ey) ∙ sy) r (cell_of x y i j ex ey r h)
  cells_by x y (Some i) None s t r ex ey sx sy h =
      let left = cell_stays x y i (length names) r (place_for x i ex) (place_past y ey) (inr (omega arith)) h in
      let was = contains.cells x y r left.1 in
      let old = allowed_row c (p.entry x) (p.entry y) r was in
      let column : p.entry y ≡ Some t = sym (entry_stays y ey) ∙ sy in
      let moves : Moves (renewed m.steps) (cast_state c σ) out i old.0 s = record {
        kept = sym (or-false (renewed m.steps i)) ∙ ap (λ b. renewed m.steps i || b) (sym past_renewed) ∙ left.0;
        from = cast_for x i ex ∙ old.1;
        to = sym (entry_of x i ex) ∙ sx;
      } in
      keeps.rows i old.0 s t moves (contains.stamps y t column) r (ap (λ n. has n r) (sym (by_stamps c (p.entry x) (p.entry y) old.0 t old.1 column)) ∙ was)
  cells_by x y None (Some j) s t r ex ey sx sy h =
      let left = cell_stays x y (length names) j r (place_past x ex) (place_for y j ey) (inl (omega arith)) h in
      let was = contains.cells x y r left.1 in
      let old = allowed_column c (p.entry x) (p.entry y) r was in
      let row : p.entry x ≡ Some s = sym (entry_stays x ex) ∙ sx in
      let moves : Moves (renewed m.steps) (cast_state c σ) out j old.0 t = record {
        kept = ap (λ b. b || renewed m.steps j) (sym past_renewed) ∙ left.0;
        from = cast_for y j ey ∙ old.1;
        to = sym (entry_of y j ey) ∙ sy;
      } in
      keeps.columns j old.0 t s moves (contains.stamps x s row) r (ap (λ n. has n r) (sym (by_stamps c (p.entry x) (p.entry y) s old.0 row old.1)) ∙ was)
  cells_by x y None None s t r ex ey sx sy h =
      let left = cell_stays x y (length names) (length names) r (place_past x ex) (place_past y ey) (inl (omega arith)) h in
      let row : p.entry x ≡ Some s = sym (entry_stays x ex) ∙ sx in
      let column : p.entry y ≡ Some t = sym (entry_stays y ey) ∙ sy in
      ap (λ n. has n r) (sym (by_stamps c (p.entry x) (p.entry y) s t row column)) ∙ contains.cells x y r left.1

  -- Where the state after is sound, a cell that holds a right lies between entries that stand.
  pub stays_inside : Sound after → Contains c after
  stays_inside sound = record {
    stamps = λ x s stands. stamps_by x (parameter_of names x) s refl stands;
    cells = λ x y r h.
        let ends = sound x y (filled_by (after.cells x y) r h) in
        let row = standing_subject (after.entry x) ends.0 in
        let column = standing_some (after.entry y) ends.1 in
        ap (λ n. has n r) (by_stamps c (after.entry x) (after.entry y) row.0 column.0 row.1 column.1)
        ∙ cells_by x y (parameter_of names x) (parameter_of names y) row.0 column.0 r refl refl row.1 column.1 h;
  }
