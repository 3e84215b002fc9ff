use Rattle.std.proofs.Common.{rules, ◌≡◌, true, sym, arith}
use Rattle.scheme.specs.Views.{view}
use Rattle.protection.specs.Requests.{standing_wrong}
use Rattle.protection.specs.Tables.{protection_of}
use Rattle.protection.proofs.Requests.{found, missed}
use Rattle.register.proofs.admission.first_misplaced.Goals as goal

pub returns-then-creates-is_some : goal.returns-then-creates-is_some
returns-then-creates-is_some c =
    let m = view c.args.command.now in
    let seen = protection_of c.args.seen.now in
    let here : standing_wrong m seen c.loop-i.i ≡ true = search rules in
    sym (found (standing_wrong m seen) m.params c.loop-i.i (omega arith) c.loop-i.invariant here)

pub returns : goal.returns
returns c = sym (missed (standing_wrong (view c.args.command.now) (protection_of c.args.seen.now)) (view c.args.command.now).params c.loop-i.i (omega arith) c.loop-i.invariant)
