use Rattle.stores.proofs.Holding.{exact}
use Rattle.stores.proofs.list.RecordList.records.Goals as goal

pub returns-clause-exact : goal.returns-clause-exact
returns-clause-exact c = rw c.as_slice-all.ensures.value (exact c.args.self.now)
