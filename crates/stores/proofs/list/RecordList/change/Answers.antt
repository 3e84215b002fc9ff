use Rattle.stores.proofs.Holding.{read_at, list_changed}
use Rattle.stores.proofs.list.RecordList.change.Goals as goal

pub returns-clause-cells : goal.returns-clause-cells
returns-clause-cells c =
    let l = c.args.self.now in
    list_changed l c.args.i c.args.mask _ c.requires.in_use (read_at l c.args.i _ c.requires.in_use c.index_mut.ensures.value)
