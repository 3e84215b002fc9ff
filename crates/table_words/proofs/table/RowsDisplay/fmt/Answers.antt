-- Each turn writes the text of one stamp more.
use Rattle.std.proofs.Common.{[], rules}
use Rattle.model.specs.declared.kind.Kind.TheVariants.{Subject}
use Rattle.words.proofs.Lines.{written_no_element, written_element}
use Rattle.table_words.proofs.table.RowsDisplay.fmt.Goals as goal

pub loop-stamp-init : goal.loop-stamp-init
loop-stamp-init g c = written_no_element _ _ _

pub loop-stamp-preserved : goal.loop-stamp-preserved
loop-stamp-preserved g c = λ plain. written_element _ _ _ _ (record { kind = Subject; attributes = [] }) _ _ _ c.loop-stamp-test.true (c.loop-stamp.invariant plain) (search rules)
