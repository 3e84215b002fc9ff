use Rattle.std.proofs.Common.{arith}
use Rattle.certificates.specs.Views.{certificate_of}
use Rattle.register.specs.Views.{state_of}
use Rattle.checker.proofs.Strays.{no_cells, one_cell_more, all_cells}
use Rattle.checker.proofs.contained.stray_cell.Goals as goal

pub loop-column-init : goal.loop-column-init
loop-column-init g c = no_cells (certificate_of c.args.certificate.now) (state_of c.args.register.now).protection c.args.row

pub loop-column-preserved : goal.loop-column-preserved
loop-column-preserved g c = one_cell_more (certificate_of c.args.certificate.now) (state_of c.args.register.now).protection c.args.row c.loop-column.column c.loop-column.invariant c.in_default.ensures

pub returns : goal.returns
returns g c =
    all_cells (certificate_of c.args.certificate.now) (state_of c.args.register.now).protection (g.met.C.CellStore.of_names c.args.register.now.store) c.args.row c.loop-column.column (omega arith) c.loop-column.invariant
