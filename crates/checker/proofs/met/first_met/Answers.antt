use Rattle.certificates.specs.Views.{bans_of, certificate_of}
use Rattle.checker.proofs.Firsts.{unmet_more, first_met, all_unmet}
use Rattle.checker.proofs.met.first_met.Goals as goal

pub returns-in-Some : goal.returns-in-Some
returns-in-Some c =
    first_met (certificate_of c.args.certificate.now) (bans_of c.args.bans.now) c.loop-number.number c.bans-ban-items.result.now _ _ _
    c.bans-ban-items.ensures c.loop-number-test.true c.loop-number.invariant c.in-Some.ensures

pub loop-number-preserved : goal.loop-number-preserved
loop-number-preserved c =
    unmet_more (certificate_of c.args.certificate.now) (bans_of c.args.bans.now) c.loop-number.number c.bans-ban-items.result.now _
    c.bans-ban-items.ensures c.loop-number-test.true c.loop-number.invariant c.in_default.ensures

pub returns : goal.returns
returns c =
    all_unmet (certificate_of c.args.certificate.now) (bans_of c.args.bans.now) c.loop-number.number c.bans-ban-items.result.now
    c.bans-ban-items.ensures c.loop-number-test.false c.loop-number.invariant
