use Rattle.std.proofs.Common.{◌-◌, arith}
use Rattle.stores.proofs.Holding.{read_at, list_removed}
use Rattle.stores.proofs.list.RecordList.remove.Goals as goal

pub returns-clause-cells : goal.returns-clause-cells
returns-clause-cells c =
    let l = c.args.self.now in
    list_removed l c.args.i _ c.requires (read_at l (l.used - 1) _ (omega arith) c.index.ensures)
