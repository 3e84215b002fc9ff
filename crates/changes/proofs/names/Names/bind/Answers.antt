use Rattle.std.proofs.Common.{rules, ◌≡◌, length}
use Rattle.model.specs.Bounded.{listed}
use Rattle.changes.proofs.Naming.{all_named, all_distinct}
use Rattle.changes.proofs.names.Names.bind.Goals as goal

pub invariant_of-result : goal.invariant_of-result
invariant_of-result c =
    let same : listed c.in_ok-items.items ≡ c.args.names.now = search rules in
    let long : length c.args.names.now ≡ c.args.params = search rules in
    rw same (record {
      named = all_named c.args.names.now c.args.params long (search rules);
      distinct = all_distinct c.args.names.now c.args.params long (search rules);
    })
