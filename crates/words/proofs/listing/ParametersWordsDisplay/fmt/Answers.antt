-- Each turn writes one parameter more.
use Rattle.std.proofs.Common.{rules}
use Rattle.words.proofs.Lines.{written_none, written_more}
use Rattle.words.proofs.listing.ParametersWordsDisplay.fmt.Goals as goal

pub loop-i-init : goal.loop-i-init
loop-i-init g c = written_none _ _ _

pub loop-i-preserved : goal.loop-i-preserved
loop-i-preserved g c = λ plain. written_more _ _ _ _ _ _ (c.loop-i.invariant plain) (search rules)
