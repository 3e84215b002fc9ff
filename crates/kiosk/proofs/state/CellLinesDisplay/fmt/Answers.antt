-- Each turn writes one text more.
use Rattle.std.proofs.Common.{rules}
use Rattle.words.proofs.Lines.{written_none, written_more}
use Rattle.kiosk.proofs.state.CellLinesDisplay.fmt.Goals as goal

pub loop-row-init : goal.loop-row-init
loop-row-init g c = written_none _ _ _

pub loop-row-preserved : goal.loop-row-preserved
loop-row-preserved g c = λ plain. written_more _ _ _ _ _ _ (c.loop-row.invariant plain) (search rules)
