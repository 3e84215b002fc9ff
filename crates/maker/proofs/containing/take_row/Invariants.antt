use Rattle.certificates.specs.Views.{certificate_of}
use Rattle.register.specs.Views.{state_of}
use Rattle.checker.proofs.Strays.{CellsBelow}
use Rattle.maker.specs.Taking.{Onward}
use Rattle.maker.proofs.containing.take_row.Given as goal

abbrev pub invariant-loop-column : goal.invariant-loop-column
invariant-loop-column g l =
    Onward (state_of l.register).protection
    (λ t. CellsBelow t (state_of l.register).protection l.row l.column)
    (certificate_of l.fn.table) (certificate_of l.table)
