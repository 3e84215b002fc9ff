use Rattle.certificates.specs.Views.{certificate_of}
use Rattle.register.specs.Views.{state_of}
use Rattle.checker.proofs.Strays.{CellsBelow}
use Rattle.checker.proofs.contained.stray_cell.Given as goal

abbrev pub invariant-loop-column : goal.invariant-loop-column
invariant-loop-column g l = CellsBelow (certificate_of l.certificate) (state_of l.register).protection l.row l.column
