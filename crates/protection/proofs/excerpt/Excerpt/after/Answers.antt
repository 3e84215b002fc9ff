use Rattle.std.proofs.Common.{rules, ◌≡◌, length}
use Rattle.protection.proofs.Tables.{after_step}
use Rattle.protection.proofs.excerpt.Excerpt.after.Goals as goal

pub returns : goal.returns
returns c =
    let long : length c.args.self.entries ≡ 3 = search rules in
    search (rules, after_step c.args.cards c.args.self c.args.next long c.requires)
