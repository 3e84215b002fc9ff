-- Each turn writes one right more.
use Rattle.std.proofs.Common.{rules}
use Rattle.words.proofs.Lines.{written_none, written_more}
use Rattle.table_words.proofs.rights.RightWordsDisplay.fmt.Goals as goal

pub loop-right-init : goal.loop-right-init
loop-right-init g c = written_none _ _ _

pub loop-right-preserved : goal.loop-right-preserved
loop-right-preserved g c = λ plain. written_more _ _ _ _ _ _ (c.loop-right.invariant plain) (search rules)
