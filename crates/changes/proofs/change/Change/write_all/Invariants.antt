use Rattle.std.proofs.Common.{◌≡◌, ℕ, ◌<◌}
use Rattle.changes.specs.Making.{Settled, Onward}
use Rattle.changes.proofs.change.Change.write_all.Given as goal

abbrev pub invariant-loop-row : goal.invariant-loop-row
invariant-loop-row g l =
    let f = g.C.CellStore.cells l.store in
    (g.C.CellStore.most l.store ≡ g.C.CellStore.most l.initial.store)
    × Onward l.self (g.C.CellStore.cells l.initial.store) f
    × ((s : ℕ) → s < l.row → (o : ℕ) → o < 64 → Settled l.pass l.self f s o)
