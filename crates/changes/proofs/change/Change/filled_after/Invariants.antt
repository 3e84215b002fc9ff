use Rattle.stores.specs.Matrices.{row_count}
use Rattle.changes.specs.Changes.{changed}
use Rattle.changes.proofs.Counting.{Exchanged}
use Rattle.changes.proofs.change.Change.filled_after.Given as goal

abbrev pub invariant-loop-row : goal.invariant-loop-row
invariant-loop-row g l =
    let f = g.C.CellStore.cells l.store in
    Exchanged (row_count (changed l.self f)) (row_count f) 64 l.row l.lost l.gained
