use Rattle.std.proofs.Common.{sym, ap, ◌∙◌}
use Rattle.stores.specs.declared.record.Record.{Record}
use Rattle.stores.proofs.Holding.{read_at, found, missed, cell_present, cell_absent}
use Rattle.stores.proofs.list.cells.RecordListCellStore.read.Goals as goal

pub returns-in-Some : goal.returns-in-Some
returns-in-Some c =
    let l = c.args.self.now in
    let here = found l c.args.row c.args.column c.in-Some.i c.in-Some.ensures in
    ap (λ (r : Record). r.mask) (read_at l c.in-Some.i _ here.0 c.index.ensures)
    ∙ sym (cell_present l c.in-Some.i c.args.row c.args.column here.0 here.1)

pub returns-in-None : goal.returns-in-None
returns-in-None c =
    let l = c.args.self.now in
    sym (cell_absent l c.args.row c.args.column (missed l c.args.row c.args.column c.in-None.ensures))
