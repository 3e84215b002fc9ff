use Rattle.std.proofs.Common.{sym}
use Rattle.stores.proofs.Holding.{used_is_count}
use Rattle.stores.proofs.list.cells.RecordListCellStore.filled.Goals as goal

pub returns : goal.returns
returns c = sym (used_is_count c.args.self.now)
