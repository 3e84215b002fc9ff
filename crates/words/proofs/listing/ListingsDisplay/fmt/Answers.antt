-- Each turn writes one command more.
use Rattle.std.proofs.Common.{rules}
use Rattle.words.proofs.Lines.{written_no_element, written_viewed}
use Rattle.words.proofs.listing.ListingsDisplay.fmt.Goals as goal

pub loop-number-init : goal.loop-number-init
loop-number-init g c = written_no_element _ _ _

pub loop-number-preserved : goal.loop-number-preserved
loop-number-preserved g c = λ plain. written_viewed _ _ _ _ _ c.command-item.result _ _ _ c.loop-number-test.true c.command-item.is (c.loop-number.invariant plain) (search rules)
