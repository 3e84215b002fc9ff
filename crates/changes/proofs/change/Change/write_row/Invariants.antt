use Rattle.std.proofs.Common.{◌≡◌, ℕ, ◌<◌}
use Rattle.changes.specs.Making.{Settled, Onward}
use Rattle.changes.proofs.change.Change.write_row.Given as goal

abbrev pub invariant-loop-column : goal.invariant-loop-column
invariant-loop-column g l =
    let f = g.C.CellStore.cells l.store in
    (g.C.CellStore.most l.store ≡ g.C.CellStore.most l.initial.store)
    × Onward l.self (g.C.CellStore.cells l.initial.store) f
    × ((o : ℕ) → o < l.column → Settled l.pass l.self f l.row o)
