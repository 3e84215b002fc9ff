use Rattle.std.proofs.Common.{arith}
use Rattle.stores.proofs.Counting.{count_bound}
use Rattle.changes.proofs.Counting.{exchanged_none, exchanged_more}
use Rattle.changes.proofs.change.Change.filled_after.Goals as goal

pub loop-row-init : goal.loop-row-init
loop-row-init g c = exchanged_none _ _ _

pub loop-row-preserved : goal.loop-row-preserved
loop-row-preserved g c =
    let here = c.exchange_in_row-here.ensures in
    exchanged_more _ _ c.loop-row.invariant here.exact here.lost here.gained

pub overflow_add-result : goal.overflow_add-result
overflow_add-result g c = omega (arith, count_bound (g.C.CellStore.cells c.args.store.now), c.loop-row.invariant.few_gained)
