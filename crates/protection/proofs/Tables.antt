-- One step on what is kept of three parameters.
use Rattle.std.proofs.Common.{◌≡◌, ℕ, zero, suc, ◌<◌, ◌≤◌, ◌⊎◌, true, ltb, None, Option, slice_get, get_or, unwrap_or, ◌||◌, length, List, [], ◌∷◌, sym, refl, ap, ◌∙◌, inl, inr, ⊎_elim, arith}
use Rattle.std.proofs.lemmas.Bool.{cases_lt, lt-ltb, le-ltb, and_right}
use Rattle.std.proofs.lemmas.Option.{slice_get_past, unwrap_or-slice_get}
use Rattle.model.specs.declared.stamp.Stamp.{Stamp}
use Rattle.scheme.specs.declared.step.Step.{Step}
use Rattle.scheme.specs.Steps.{step_shaped, creates_in_step, destroys_in_step}
use Rattle.stores.specs.Matrices.{Matrix}
use Rattle.protection.specs.declared.excerpt.Excerpt.{Excerpt}
use Rattle.protection.specs.Commands.{step}
use Rattle.protection.specs.Excerpts.{itself}
use Rattle.protection.specs.Places.{cell_after, entry_after}
use Rattle.protection.specs.States.{Protection}
use Rattle.protection.specs.Tables.{cells_of, protection_of}
use Rattle.protection.proofs.Naming.{placed_itself}
use Rattle.protection.proofs.Outside.{outside_step, entry_step, emptied}
use Rattle.protection.proofs.Places.{step_cell, step_entry}
use Rattle.protection.proofs.States.{same_state}

-- three of something, read by number
three_read : {X : Type 0} (f : ℕ → X) (d : X) (i : ℕ) → i < 3 → get_or (f 0 ∷ f 1 ∷ f 2 ∷ []) i d ≡ f i
three_read f d zero h = refl
three_read f d (suc zero) h = refl
three_read f d (suc (suc zero)) h = refl
three_read f d (suc (suc (suc i))) h = absurd (omega arith)

-- three entries
abbrev pub entries_with : (ℕ → Option Stamp) → List (Option Stamp)
entries_with f = f 0 ∷ f 1 ∷ f 2 ∷ []

entries_read : (f : ℕ → Option Stamp) → ((i : ℕ) → 3 ≤ i → f i ≡ None) → (i : ℕ) → unwrap_or (slice_get (entries_with f) i) None ≡ f i
entries_read f none i =
    ⊎_elim
    (λ (inside : i < 3). unwrap_or-slice_get (entries_with f) i None ∙ three_read f None i inside)
    (λ (past : 3 ≤ i). rw (slice_get_past (entries_with f) i past) (sym (none i past)))
    (cases_lt i 3)

-- three by three cells
abbrev pub row_with : Matrix → (i : ℕ) → List ℕ
row_with f i = f i 0 ∷ f i 1 ∷ f i 2 ∷ []

abbrev pub table_with : Matrix → List (List ℕ)
table_with f = row_with f 0 ∷ row_with f 1 ∷ row_with f 2 ∷ []

table_read : (f : Matrix) → ((i j : ℕ) → (3 ≤ i) ⊎ (3 ≤ j) → f i j ≡ 0) → (i j : ℕ) → cells_of (table_with f) i j ≡ f i j
table_read f empty i j =
    ⊎_elim
    (λ (row : i < 3).
    ⊎_elim
    (λ (column : j < 3). rw (lt-ltb i 3 row, lt-ltb j 3 column) (ap (λ r. get_or r j 0) (three_read (row_with f) [] i row) ∙ three_read (f i) 0 j column))
    (λ (past : 3 ≤ j). rw (and_right (ltb i 3) (ltb j 3) (le-ltb j 3 past)) (sym (empty i j (inr past))))
    (cases_lt j 3))
    (λ (past : 3 ≤ i). rw (le-ltb i 3 past) (sym (empty i j (inl past))))
    (cases_lt i 3)

-- What has nothing past the third parameter is kept whole in three entries, and three by three cells.
pub kept_whole : (p : Protection) → ((i : ℕ) → 3 ≤ i → p.entry i ≡ None) → ((i j : ℕ) → (3 ≤ i) ⊎ (3 ≤ j) → p.cells i j ≡ 0) → (entries : List (Option Stamp)) (table : List (List ℕ)) → entries ≡ entries_with p.entry → table ≡ table_with p.cells → protection_of (record { entries = entries; cells = table }) ≡ p
kept_whole p none empty entries table here there =
    rw (here, there)
    (same_state (protection_of (record { entries = entries_with p.entry; cells = table_with p.cells })) p (entries_read p.entry none) (table_read p.cells empty))

no_cell : (table : List (List ℕ)) (i j : ℕ) → (3 ≤ i) ⊎ (3 ≤ j) → cells_of table i j ≡ 0
no_cell table i j =
    ⊎_elim
    (λ (row : 3 ≤ i). rw (le-ltb i 3 row) refl)
    (λ (column : 3 ≤ j). rw (and_right (ltb i 3) (ltb j 3) (le-ltb j 3 column)) refl)

-- what the step makes of each entry, and of each cell
abbrev pub entry_then : (cards : ℕ) → Excerpt → Step → ℕ → Option Stamp
entry_then cards e s i = entry_after cards s i ((protection_of e).entry i)

abbrev pub cell_then : Excerpt → Step → Matrix
cell_then e s i j = cell_after s i j ((protection_of e).cells i j)

module _ (cards : ℕ) (e : Excerpt) (s : Step) (long : length e.entries ≡ 3) (shaped : step_shaped 3 s ≡ true) where
  no_entry : (i : ℕ) → 3 ≤ i → entry_then cards e s i ≡ None
  no_entry i past =
      let none : slice_get e.entries i ≡ None = slice_get_past e.entries i (rw long past) in
      entry_step cards 3 s i ((protection_of e).entry i) past shaped ∙ rw none refl

  empty : (i j : ℕ) → (3 ≤ i) ⊎ (3 ≤ j) → cell_then e s i j ≡ 0
  empty i j out =
      ap (cell_after s i j) (no_cell e.cells i j out)
      ∙ outside_step 3 s i j 0 out shaped
      ∙ emptied ((creates_in_step i s || destroys_in_step i s) || (creates_in_step j s || destroys_in_step j s))

  -- An excerpt that holds at each place what the step makes of it.
  pub after_step : (entries : List (Option Stamp)) (table : List (List ℕ)) → entries ≡ entries_with (entry_then cards e s) → table ≡ table_with (cell_then e s) → protection_of (record { entries = entries; cells = table }) ≡ step cards itself (protection_of e) s
  after_step entries table here there =
      let after : Protection = record { entry = entry_then cards e s; cells = cell_then e s } in
      kept_whole after no_entry empty entries table here there
      ∙ same_state after (step cards itself (protection_of e) s)
      (λ i. sym (step_entry cards 3 itself itself (placed_itself 3) (protection_of e) s i shaped))
      (λ i j. sym (step_cell cards 3 itself itself (placed_itself 3) (protection_of e) s i j shaped))
