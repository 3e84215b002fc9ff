use Rattle.std.proofs.Common.{ℕ, take, sym, subst}
use Rattle.stores.specs.RecordLists.{records_of, shown}
use Rattle.stores.specs.Records.{Lists}
use Rattle.stores.proofs.Holding.{exact, used_is_count}
use Rattle.stores.proofs.list.RecordList.into_records.Goals as goal

pub returns-clause-exact : goal.returns-clause-exact
returns-clause-exact c =
    let l = c.args.self in
    subst (λ (n : ℕ). Lists (take n (records_of l)) (shown l)) (sym (used_is_count l)) (exact l)
