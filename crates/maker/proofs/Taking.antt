-- How a table that takes up a state part by part comes to be the least that contains it.
use Rattle.std.proofs.Common.{◌≡◌, ℕ, ◌+◌, ◌≤◌, Bool, true, false, not, ◌&&◌, Result, Ok, Err, MatchResult, Some, None, Option, refl, sym, ap, ◌∙◌}
use Rattle.std.specs.Bool.{⊤}
use Rattle.std.proofs.lemmas.Bool.{cond_both}
use Rattle.model.specs.declared.stamp.Stamp.{Stamp}
use Rattle.model.specs.Kinds.{subject_kind}
use Rattle.model.specs.Masks.{has}
use Rattle.stores.specs.Matrices.{is_name}
use Rattle.protection.specs.States.{Protection}
use Rattle.certificates.specs.Certificates.{Certificate, no_stamps, lists, allows, between}
use Rattle.checker.specs.Containing.{Contains, unlisted, CellInside, RowInside, NameInside}
use Rattle.checker.proofs.Strays.{CellsBelow, NamesBelow, empty_inside, no_cells, one_cell_more, all_cells, one_name_more}
use Rattle.maker.specs.declared.need.Need.{Need}
use Rattle.maker.specs.declared.need.Need.TheVariants.{Stamp as Listing, Rights}
use Rattle.maker.specs.declared.need.Overfull.{Overfull}
use Rattle.maker.specs.Comparing.{Above}
use Rattle.maker.specs.Growing.{Has, Grown, Bursts}
use Rattle.maker.specs.Taking.{Under, Onward, Takes}
use Rattle.maker.proofs.Comparing.{above_self, above_both, between_above}

-- what a certificate says, one that says all that it says says too
unlisted_falls : (d c : Certificate) (e : Option Stamp) → Above d c → unlisted c e ≡ false → unlisted d e ≡ false
unlisted_falls d c None above listed = refl
unlisted_falls d c (Some s) above listed = by (lists c s) refl listed
  where
    by : (b : Bool) → lists c s ≡ b → not b ≡ false → not (lists d s) ≡ false
    by true is h = ap not (above.stamps s is)
    by false is h = cc

-- where nothing is listed, nothing is allowed
none_allowed : (u v : Stamp) → allows no_stamps u v ≡ 0
none_allowed u v = cond_both (subject_kind u.kind) 0 0 (λ m. m ≡ 0) (λ _. refl) (λ _. refl)

module _ (p : Protection) where
  cell_stays : (d c : Certificate) (n o : ℕ) → Above d c → CellInside c p n o → CellInside d p n o
  cell_stays d c n o above inside r h = between_above d c above (p.entry n) (p.entry o) r (inside r h)

  name_stays : (d c : Certificate) (n : ℕ) → Above d c → NameInside c p n → NameInside d p n
  name_stays d c n above inside =
      record { stamp = unlisted_falls d c (p.entry n) above inside.stamp; row = λ o. cell_stays d c n o above (inside.row o) }

  pub contains_above : (d c : Certificate) → Above d c → Contains c p → Contains d p
  contains_above d c above contains =
      record { stamps = λ n s stands. above.stamps s (contains.stamps n s stands); cells = λ n o. cell_stays d c n o above (contains.cells n o) }

  -- nothing is taken up
  pub onward_none : (So : Certificate → Type 0) (c : Certificate) → So c → Onward p So c c
  onward_none So c so = record { says_all = above_self c; under = λ below. below; so = so }

  -- one part after the other
  pub onward_both : (So Then All : Certificate → Type 0) (a b c : Certificate) → Onward p So a b → Onward p Then b c → (Above c b → So b → Then c → All c) → Onward p All a c
  onward_both So Then All a b c first second all =
      record {
        says_all = above_both c b a second.says_all first.says_all;
        under = λ below. second.under (first.under below);
        so = all second.says_all first.so second.so;
      }

  -- a need that whatever contains the state has
  module _ (need : Need) (needed : (d : Certificate) → Contains d p → Has d need) (before : Certificate) where
    -- where it is met, so is what hangs on it
    taken_by : (So : Certificate → Type 0) (after : Certificate) → (Has after need → So after) → (result : Result ⊤ Overfull) → MatchResult result (λ _. Grown before need after) (λ _. Bursts before need) → Takes p So before after result
    taken_by So after so (Ok done) added =
        record {
          says_all = added.grown.says_all;
          under = λ below d contains. added.grown.least d (below d contains) (needed d contains);
          so = so added.complete;
        }
    taken_by So after so (Err full) bursts = λ below d contains. bursts d (below d contains, needed d contains)

  -- the stamp of an entry
  pub entry_taken : (n : ℕ) (s : Stamp) (before after : Certificate) (result : Result ⊤ Overfull) → Some s ≡ p.entry n → MatchResult result (λ _. Grown before (Listing s) after) (λ _. Bursts before (Listing s)) → Takes p (λ t. unlisted t (p.entry n) ≡ false) before after result
  entry_taken n s before after result stands =
      taken_by (Listing s) (λ d contains. contains.stamps n s (sym stands)) before (λ t. unlisted t (p.entry n) ≡ false) after
      (λ listed. ap (unlisted after) (sym stands) ∙ ap not listed) result

  -- what a cell holds
  pub cell_taken : (n o mask : ℕ) (u v : Stamp) (before after : Certificate) (result : Result ⊤ Overfull) → mask ≡ p.cells n o → Some u ≡ p.entry n → Some v ≡ p.entry o → MatchResult result (λ _. Grown before (Rights u v mask) after) (λ _. Bursts before (Rights u v mask)) → Takes p (λ t. CellInside t p n o) before after result
  cell_taken n o mask u v before after result held row column =
      taken_by (Rights u v mask)
      (λ d contains r h. ap (λ m. has m r) (λ i. between d (row i) (column i)) ∙ contains.cells n o r (ap (λ m. has m r) (sym held) ∙ h))
      before (λ t. CellInside t p n o) after
      (λ allowed r h. ap (λ m. has m r) (λ i. between after (sym row i) (sym column i)) ∙ allowed r (ap (λ m. has m r) held ∙ h))
      result

  -- a row, cell by cell
  pub no_cell : (n : ℕ) (c : Certificate) → Onward p (λ t. CellsBelow t p n 0) c c
  no_cell n c = onward_none (λ t. CellsBelow t p n 0) c (no_cells c p n)

  pub one_more_cell : (n k : ℕ) (a b c : Certificate) → Onward p (λ t. CellsBelow t p n k) a b → Onward p (λ t. CellInside t p n k) b c → Onward p (λ t. CellsBelow t p n (k + 1)) a c
  one_more_cell n k a b c first second =
      onward_both (λ t. CellsBelow t p n k) (λ t. CellInside t p n k) (λ t. CellsBelow t p n (k + 1)) a b c first second
      (λ above below here. one_cell_more c p n k (λ o low. cell_stays c b n o above (below o low)) here)

  pub whole_row : ((s o : ℕ) → (is_name s && is_name o) ≡ false → p.cells s o ≡ 0) → (n k : ℕ) → 64 ≤ k → (a b : Certificate) → Onward p (λ t. CellsBelow t p n k) a b → Onward p (λ t. RowInside t p n) a b
  whole_row of_names n k all a b cells =
      record { says_all = cells.says_all; under = cells.under; so = all_cells b p of_names n k all cells.so }

  -- a name: its entry, and then its row
  pub name_taken : (n : ℕ) (a b c : Certificate) (result : Result ⊤ Overfull) → Onward p (λ t. unlisted t (p.entry n) ≡ false) a b → Takes p (λ t. RowInside t p n) b c result → Takes p (λ t. NameInside t p n) a c result
  name_taken n a b c (Ok done) first second =
      onward_both (λ t. unlisted t (p.entry n) ≡ false) (λ t. RowInside t p n) (λ t. NameInside t p n) a b c first second
      (λ above listed row. record { stamp = unlisted_falls c b (p.entry n) above listed; row = row })
  name_taken n a b c (Err full) first over = λ below. over (first.under below)

  -- all names, from the empty table on
  pub none_under : Under p no_stamps
  none_under d contains = record { stamps = λ s h. cc; rights = λ u v. empty_inside (allows no_stamps u v) (allows d u v) (none_allowed u v) }

  pub one_more_name : (k : ℕ) (b c : Certificate) → NamesBelow b p k → Onward p (λ t. NameInside t p k) b c → NamesBelow c p (k + 1)
  one_more_name k b c below here = one_name_more c p k (λ n low. name_stays c b n here.says_all (below n low)) here.so
