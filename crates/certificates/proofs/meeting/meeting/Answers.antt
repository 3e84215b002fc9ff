use Rattle.std.proofs.Common.{arith}
use Rattle.certificates.specs.Bans.{UnmetOn}
use Rattle.certificates.specs.Views.{certificate_of}
use Rattle.certificates.proofs.Each.{each_none, each_more}
use Rattle.certificates.proofs.Listed.{listed_at, each_listed, met, unmet}
use Rattle.certificates.proofs.meeting.meeting.Goals as goal

pub loop-u-init : goal.loop-u-init
loop-u-init c = each_none (UnmetOn (certificate_of c.args.certificate.now) c.args.ban.now) c.stamps-u-items.result.now

pub returns-in-Some : goal.returns-in-Some
returns-in-Some c =
    met (certificate_of c.args.certificate.now) c.args.ban.now _ _
    (listed_at (certificate_of c.args.certificate.now) c.stamps-u-items.result.now c.loop-u.u-index _ c.stamps-u-items.ensures c.loop-u-test.true)
    c.in-Some.ensures.0
    c.in-Some.ensures.1

pub loop-u-preserved : goal.loop-u-preserved
loop-u-preserved c = each_more (UnmetOn (certificate_of c.args.certificate.now) c.args.ban.now) c.stamps-u-items.result.now c.loop-u.u-index _ c.loop-u-test.true c.loop-u.invariant c.in_default.ensures

pub returns : goal.returns
returns c =
    unmet (certificate_of c.args.certificate.now) c.args.ban.now
    (each_listed (UnmetOn (certificate_of c.args.certificate.now) c.args.ban.now) (certificate_of c.args.certificate.now) c.stamps-u-items.result.now c.loop-u.u-index c.stamps-u-items.ensures (omega arith) c.loop-u.invariant)
