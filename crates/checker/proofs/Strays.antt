-- Whether names are at fault, one after the other, as loops over them come to them.
use Rattle.std.proofs.Common.{◌≡◌, ℕ, ◌+◌, ◌<◌, ◌≤◌, Bool, true, false, cond, not, ◌&&◌, MatchOption, Some, None, Option, below_more, refl, sym, ap, ◌∙◌, ⊎_elim, inl, inr, arith}
use Rattle.std.proofs.lemmas.Bool.{cases_lt, and_right, both_ways, le-ltb, not-true}
use Rattle.model.specs.declared.stamp.Stamp.{Stamp}
use Rattle.model.specs.Lowest.{NoneBelow}
use Rattle.model.specs.Masks.{has, Within}
use Rattle.model.proofs.Rights.{holds_nothing}
use Rattle.stores.specs.Matrices.{is_name}
use Rattle.protection.specs.States.{Protection}
use Rattle.certificates.specs.Certificates.{Certificate, lists, between}
use Rattle.castings.specs.Escapes.{UnlistedAt}
use Rattle.checker.specs.declared.flaw.Stray.{Stray}
use Rattle.checker.specs.Containing.{Contains, unlisted, CellInside, RowInside, NameInside, AtFault}

-- an empty cell holds nothing
pub empty_inside : (m n : ℕ) → m ≡ 0 → Within m n
empty_inside m n empty right h = absurd (both_ways (has 0 right) (holds_nothing right) (rw empty at h))

listed_of : (c : Certificate) (entry : Option Stamp) (s : Stamp) → unlisted c entry ≡ false → entry ≡ Some s → lists c s ≡ true
listed_of c entry s listed is = by (lists c s) (sym (ap (unlisted c) is) ∙ listed)
  where
    by : (b : Bool) → not b ≡ false → b ≡ true
    by true h = refl
    by false h = cc

shown : (c : Certificate) (p : Protection) (n : ℕ) (entry : Option Stamp) → p.entry n ≡ entry → unlisted c entry ≡ true → UnlistedAt c p n
shown c p n None is h = cc
shown c p n (Some s) is h = record { stamp = s; stands = is; unlisted = not-true (lists c s) h }

module _ (c : Certificate) (p : Protection) where
  -- what is said of the entry that stands under a name, by a test of its stamp
  module _ (n : ℕ) (entry : Option Stamp) (test : Bool) (stands : entry ≡ p.entry n) (tested : test ≡ unlisted c entry) where
    pub unlisted_entry : test ≡ true → UnlistedAt c p n
    unlisted_entry is = shown c p n entry (sym stands) (sym tested ∙ is)

    -- where the stamp is listed, the row decides
    pub by_row : (stray : Option Stray) (Q : Stray → Type 0) → test ≡ false → MatchOption stray (RowInside c p n) Q → MatchOption stray (NameInside c p n) Q
    by_row None Q is inside = record { stamp = ap (unlisted c) (sym stands) ∙ sym tested ∙ is; row = inside }
    by_row (Some stray) Q is found = found

  -- a row, cell by cell
  abbrev pub CellsBelow : (n k : ℕ) → Type 0
  CellsBelow n k = (o : ℕ) → o < k → CellInside c p n o

  pub no_cells : (n : ℕ) → CellsBelow n 0
  no_cells n o low = absurd (omega (arith, low))

  pub one_cell_more : (n k : ℕ) → CellsBelow n k → CellInside c p n k → CellsBelow n (k + 1)
  one_cell_more n k below here = below_more (CellInside c p n) k below here

  module _ (of_names : (s o : ℕ) → (is_name s && is_name o) ≡ false → p.cells s o ≡ 0) where
    pub all_cells : (n k : ℕ) → 64 ≤ k → CellsBelow n k → RowInside c p n
    all_cells n k all below o =
        ⊎_elim
        (λ (low : o < 64). below o (omega (arith, low, all)))
        (λ (over : 64 ≤ o). empty_inside (p.cells n o) (between c (p.entry n) (p.entry o)) (of_names n o (and_right (is_name n) (is_name o) (le-ltb o 64 over))))
        (cases_lt o 64)

    -- a number that is no name is not at fault
    pub no_name_inside : ((n : ℕ) → p.entry n ≡ cond (is_name n) (p.entry n) None) → (n : ℕ) → 64 ≤ n → NameInside c p n
    no_name_inside entries n over =
        let none : p.entry n ≡ None = entries n ∙ rw (le-ltb n 64 over) refl in
        record {
          stamp = ap (unlisted c) none;
          row = λ o. empty_inside (p.cells n o) (between c (p.entry n) (p.entry o)) (of_names n o (rw (le-ltb n 64 over) refl));
        }

  -- a register, name by name
  abbrev pub NamesBelow : (k : ℕ) → Type 0
  NamesBelow k = (n : ℕ) → n < k → NameInside c p n

  pub no_names : NamesBelow 0
  no_names n low = absurd (omega (arith, low))

  pub one_name_more : (k : ℕ) → NamesBelow k → NameInside c p k → NamesBelow (k + 1)
  one_name_more k below here = below_more (NameInside c p) k below here

  inside_not_at_fault : (n : ℕ) → NameInside c p n → AtFault c p n → ⊥
  inside_not_at_fault n inside (inl fault) = both_ways (unlisted c (p.entry n)) inside.stamp (ap (unlisted c) fault.stands ∙ rw fault.unlisted refl)
  inside_not_at_fault n inside (inr fault) =
      let o = fault.0 in
      let right = fault.1 in
      both_ways (has (between c (p.entry n) (p.entry o)) right) fault.2.outside (inside.row o right fault.2.holds)

  pub none_below : (k : ℕ) → NamesBelow k → NoneBelow (AtFault c p) k
  none_below k below n low fault = inside_not_at_fault n (below n low) fault

  pub contained : (k : ℕ) → 64 ≤ k → NamesBelow k → ((n : ℕ) → 64 ≤ n → NameInside c p n) → Contains c p
  contained k all below past =
      let each : (n : ℕ) → NameInside c p n = λ n. ⊎_elim (λ (low : n < 64). below n (omega (arith, low, all))) (λ (over : 64 ≤ n). past n over) (cases_lt n 64) in
      record {
        stamps = λ n s stands. listed_of c (p.entry n) s (each n).stamp stands;
        cells = λ n o. (each n).row o;
      }
