use Rattle.certificates.specs.Views.{certificate_of}
use Rattle.register.specs.Views.{state_of}
use Rattle.maker.proofs.Taking.{cell_taken}
use Rattle.maker.proofs.containing.take_cell.Goals as goal

pub returns-in-Some-Some : goal.returns-in-Some-Some
returns-in-Some-Some g c =
    cell_taken (state_of c.args.register.now).protection c.args.row c.args.column c.cell-mask.result c.in-Some-Some.row c.in-Some-Some.column
    (certificate_of c.args.table.now) (certificate_of c.meet.new.table) c.meet.result
    c.cell-mask.ensures.value c.in-Some-Some.ensures.value c.in-Some-Some.ensures'.value c.meet.ensures.grown
