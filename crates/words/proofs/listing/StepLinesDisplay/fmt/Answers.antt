-- Each turn writes one line more.
use Rattle.std.proofs.Common.{rules}
use Rattle.scheme.specs.declared.step.Step.TheVariants.{Enter}
use Rattle.words.proofs.Lines.{written_no_element, written_element}
use Rattle.words.proofs.listing.StepLinesDisplay.fmt.Goals as goal

pub loop-number-init : goal.loop-number-init
loop-number-init g c = written_no_element _ _ _

pub loop-number-preserved : goal.loop-number-preserved
loop-number-preserved g c = λ plain. written_element _ _ _ _ (Enter 0 0 0) _ _ _ c.loop-number-test.true (c.loop-number.invariant plain) (search rules)
