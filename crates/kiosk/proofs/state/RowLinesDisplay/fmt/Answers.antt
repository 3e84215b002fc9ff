-- Each turn writes one text more.
use Rattle.std.proofs.Common.{rules}
use Rattle.words.proofs.Lines.{written_none, written_more}
use Rattle.kiosk.proofs.state.RowLinesDisplay.fmt.Goals as goal

pub loop-column-init : goal.loop-column-init
loop-column-init g c = written_none _ _ _

pub loop-column-preserved : goal.loop-column-preserved
loop-column-preserved g c = λ plain. written_more _ _ _ _ _ _ (c.loop-column.invariant plain) (search rules)
