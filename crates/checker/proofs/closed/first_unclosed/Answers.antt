use Rattle.certificates.specs.Views.{certificate_of}
use Rattle.register.specs.Views.{kept_by}
use Rattle.checker.proofs.Firsts.{closed_more, first_escaped, all_closed}
use Rattle.checker.proofs.closed.first_unclosed.Goals as goal

pub returns-in-Some : goal.returns-in-Some
returns-in-Some g c =
    first_escaped (kept_by c.args.register.now) (certificate_of c.args.certificate.now) c.commands-command-items.result.now
    c.commands-command-items.ensures c.loop-number.number c.command-item.result c.in-Some.escape c.loop-number-test.true c.command-item.is c.loop-number.invariant c.in-Some.ensures

pub loop-number-preserved : goal.loop-number-preserved
loop-number-preserved g c =
    closed_more (kept_by c.args.register.now) (certificate_of c.args.certificate.now) c.commands-command-items.result.now
    c.commands-command-items.ensures c.loop-number.number c.command-item.result c.loop-number-test.true c.command-item.is c.loop-number.invariant c.in_default.ensures

pub returns : goal.returns
returns g c =
    all_closed (kept_by c.args.register.now) (certificate_of c.args.certificate.now) c.commands-command-items.result.now
    c.commands-command-items.ensures c.loop-number.number c.loop-number-test.false c.loop-number.invariant
