-- What an escape lacks is needed: the table does not have it, and whatever lies above the table and is closed has it.
use Rattle.std.proofs.Common.{◌≡◌, ℕ, Bool, true, false, Some, sym, ap, ◌∙◌}
use Rattle.std.proofs.lemmas.Bool.{both_ways}
use Rattle.std.proofs.lemmas.Option.{same_Some}
use Rattle.model.specs.declared.stamp.Stamp.{Stamp as AnyStamp}
use Rattle.model.specs.Masks.{has, Within}
use Rattle.scheme.specs.Commands.{Command}
use Rattle.protection.specs.Excerpts.{renewed}
use Rattle.protection.specs.States.{Protection}
use Rattle.protection.proofs.Places.{Shaped}
use Rattle.certificates.specs.Certificates.{Certificate, lists, allows, between}
use Rattle.castings.specs.declared.escape.Breach.{Breach}
use Rattle.castings.specs.declared.escape.Breach.TheVariants.{Unlisted, Cell, Row, Column}
use Rattle.castings.specs.Castings.{Casting, Casts, cast_state, Passes}
use Rattle.castings.specs.Closure.{outcome_of}
use Rattle.castings.specs.Escapes.{IsBreach, UnlistedAt, CellOutside, RowLost, ColumnLost}
use Rattle.maker.specs.declared.need.Need.{Need}
use Rattle.maker.specs.declared.need.Need.TheVariants.{Stamp, Rights}
use Rattle.maker.specs.Needs.{Mends, NeededBy}
use Rattle.maker.proofs.Lifting.{stamp_kept, cell_kept, row_kept, column_kept}

-- a right that shows it
not_within : (m n r : ℕ) → has m r ≡ true → has n r ≡ false → Within m n → ⊥
not_within m n r had lost within = both_ways (has n r) lost (within r had)

module _ (covers : ℕ → ℕ → ℕ → Bool) (t : Certificate) (m : Command) (n : ℕ) (shaped : Shaped n m.steps) (σ : Casting) (casts : Casts t m σ) (passing : Passes covers m (cast_state t σ)) where
  abbrev after : Protection
  after = outcome_of t m σ

  stamp_needed : (i : ℕ) (s : AnyStamp) → after.entry i ≡ Some s → UnlistedAt t after i → NeededBy covers t m (Stamp s)
  stamp_needed i s stands lost = record {
    lacks = both_ways (lists t s) (ap (lists t) (same_Some s lost.stamp (sym stands ∙ lost.stands)) ∙ lost.unlisted);
    needed = λ d above closed. stamp_kept n m shaped σ d t above covers closed casts passing i s stands;
  }

  cell_needed : (i j r : ℕ) (u v : AnyStamp) → after.entry i ≡ Some u → after.entry j ≡ Some v → CellOutside t after i j r → NeededBy covers t m (Rights u v (after.cells i j))
  cell_needed i j r u v row column lost =
      let first = same_Some u lost.row (sym row ∙ lost.stands) in
      let second = same_Some v lost.column (sym column ∙ lost.stands_too) in
      record {
        lacks = not_within (after.cells i j) (allows t u v) r lost.holds (rw (first, second) lost.outside);
        needed = λ d above closed. cell_kept n m shaped σ d t above covers closed casts passing i j u v row column;
      }

  row_needed : (i r : ℕ) (v w : AnyStamp) → after.entry i ≡ Some v → RowLost t (renewed m.steps) (cast_state t σ) after i w r → NeededBy covers t m (Rights v w (between t (σ i) (Some w)))
  row_needed i r v w stands lost =
      let new = same_Some lost.new v (sym lost.moves.to ∙ stands) in
      let was : between t (σ i) (Some w) ≡ allows t lost.old w = ap (λ e. between t e (Some w)) lost.moves.from in
      rw (was, ← new) record {
        lacks = not_within (allows t lost.old w) (allows t lost.new w) r lost.had lost.lost;
        needed = λ d above closed. row_kept n m shaped σ d t above covers closed casts passing i lost.old lost.new w lost.moves lost.listed;
      }

  column_needed : (i r : ℕ) (v w : AnyStamp) → after.entry i ≡ Some v → ColumnLost t (renewed m.steps) (cast_state t σ) after i w r → NeededBy covers t m (Rights w v (between t (Some w) (σ i)))
  column_needed i r v w stands lost =
      let new = same_Some lost.new v (sym lost.moves.to ∙ stands) in
      let was : between t (Some w) (σ i) ≡ allows t w lost.old = ap (between t (Some w)) lost.moves.from in
      rw (was, ← new) record {
        lacks = not_within (allows t w lost.old) (allows t w lost.new) r lost.had lost.lost;
        needed = λ d above closed. column_kept n m shaped σ d t above covers closed casts passing i lost.old lost.new w lost.moves lost.listed;
      }

  pub mending_needed : (b : Breach) (need : Need) → IsBreach t (renewed m.steps) (cast_state t σ) after b → Mends t (cast_state t σ) after b need → NeededBy covers t m need
  mending_needed (Unlisted i) need lost mends = rw mends.2 (stamp_needed i mends.0 mends.1 lost)
  mending_needed (Cell i j r) need lost mends = rw mends.4 (cell_needed i j r mends.0 mends.1 mends.2 mends.3 lost)
  mending_needed (Row i w r) need lost mends = rw mends.2 (row_needed i r mends.0 w mends.1 lost)
  mending_needed (Column i w r) need lost mends = rw mends.2 (column_needed i r mends.0 w mends.1 lost)
