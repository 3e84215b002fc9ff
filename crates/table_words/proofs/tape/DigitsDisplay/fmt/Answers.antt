-- Each turn writes one byte more.
use Rattle.std.proofs.Common.{rules}
use Rattle.words.proofs.Lines.{written_no_element, written_element}
use Rattle.table_words.proofs.tape.DigitsDisplay.fmt.Goals as goal

pub loop-byte-init : goal.loop-byte-init
loop-byte-init g c = written_no_element _ _ _

pub loop-byte-preserved : goal.loop-byte-preserved
loop-byte-preserved g c = λ plain. written_element _ _ _ _ 0 _ _ _ c.loop-byte-test.true (c.loop-byte.invariant plain) (search rules)
