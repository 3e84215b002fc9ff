-- Each turn writes one text more.
use Rattle.std.proofs.Common.{rules}
use Rattle.words.proofs.Lines.{written_none, written_more}
use Rattle.kiosk.proofs.state.EntryLinesDisplay.fmt.Goals as goal

pub loop-name-init : goal.loop-name-init
loop-name-init g c = written_none _ _ _

pub loop-name-preserved : goal.loop-name-preserved
loop-name-preserved g c = λ plain. written_more _ _ _ _ _ _ (c.loop-name.invariant plain) (search rules)
