-- Each turn writes the text of one stamp more.
use Rattle.std.proofs.Common.{[], rules}
use Rattle.model.specs.declared.kind.Kind.TheVariants.{Subject}
use Rattle.words.proofs.Lines.{written_no_element, written_element}
use Rattle.table_words.proofs.table.CellsDisplay.fmt.Goals as goal

pub loop-column-init : goal.loop-column-init
loop-column-init g c = written_no_element _ _ _

pub loop-column-preserved : goal.loop-column-preserved
loop-column-preserved g c = λ plain. written_element _ _ _ _ (record { kind = Subject; attributes = [] }) _ _ _ c.loop-column-test.true (c.loop-column.invariant plain) (search rules)
