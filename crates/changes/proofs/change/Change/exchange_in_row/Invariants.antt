use Rattle.stores.specs.Matrices.{some, one_if}
use Rattle.changes.specs.Changes.{changed}
use Rattle.changes.proofs.Counting.{Exchanged}
use Rattle.changes.proofs.change.Change.exchange_in_row.Given as goal

abbrev pub invariant-loop-column : goal.invariant-loop-column
invariant-loop-column g l =
    let f = g.C.CellStore.cells l.store l.row in
    Exchanged (λ o. one_if (some (changed l.self (g.C.CellStore.cells l.store) l.row o))) (λ o. one_if (some (f o))) 1 l.column l.lost l.gained
