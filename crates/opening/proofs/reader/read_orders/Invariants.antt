use Rattle.std.proofs.Common.{◌≡◌}
use Rattle.protection.specs.Standing.{standing}
use Rattle.opening.proofs.Taking.{Reached}
use Rattle.opening.proofs.reader.read_orders.Given as goal

abbrev pub invariant-loop-placed : goal.invariant-loop-placed
invariant-loop-placed g l = record {
  can : (goal.iterator-loop-placed g).can_next l.placed-iterator;
  ends : (goal.iterator-loop-placed g).is_finite l.placed-iterator;
  reached : Reached l.counts (g.C.CellStore.most l.fn.store) l.tape l.placed-iterator (standing l.entries (g.C.CellStore.cells l.store));
  limit : g.C.CellStore.most l.store ≡ g.C.CellStore.most l.fn.store;
}
