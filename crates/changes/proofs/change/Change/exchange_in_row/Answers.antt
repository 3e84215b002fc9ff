use Rattle.std.proofs.Common.{arith}
use Rattle.changes.proofs.Counting.{exchanged_none, exchanged_more, exchanged_all}
use Rattle.changes.proofs.change.Change.exchange_in_row.Goals as goal

pub loop-column-init : goal.loop-column-init
loop-column-init g c = exchanged_none _ _ _

pub loop-column-preserved : goal.loop-column-preserved
loop-column-preserved g c =
    let here = c.exchange_in_cell-here.ensures in
    exchanged_more _ _ c.loop-column.invariant here.exact here.lost here.gained

pub returns-clause-exact : goal.returns-clause-exact
returns-clause-exact g c = exchanged_all 64 (omega arith) c.loop-column.invariant
