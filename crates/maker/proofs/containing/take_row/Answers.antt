use Rattle.std.proofs.Common.{arith}
use Rattle.certificates.specs.Views.{certificate_of}
use Rattle.register.specs.Views.{state_of}
use Rattle.maker.proofs.Taking.{one_more_cell, whole_row}
use Rattle.maker.proofs.containing.take_row.Goals as goal

pub loop-column-preserved : goal.loop-column-preserved
loop-column-preserved g c =
    one_more_cell (state_of c.args.register.now).protection c.args.row c.loop-column.column
    (certificate_of c.args.table.now) (certificate_of c.loop-column.table) (certificate_of c.take_cell.new.table)
    c.loop-column.invariant c.in_ok-take_cell.ensures

pub returns : goal.returns
returns g c =
    whole_row (state_of c.args.register.now).protection (g.met.C.CellStore.of_names c.args.register.now.store) c.args.row c.loop-column.column
    (omega arith) (certificate_of c.args.table.now) (certificate_of c.loop-column.table) c.loop-column.invariant
