use Rattle.certificates.specs.Views.{bans_of, certificate_of}
use Rattle.register.specs.Views.{kept_by, state_of}
use Rattle.checker.proofs.Judging.{flaw_judged}
use Rattle.checker.proofs.judgement.judge.Goals as goal

pub returns-in-Some : goal.returns-in-Some
returns-in-Some g c =
    rw (c.fault.ensures.layer, c.fault.ensures.rule, c.fault.ensures.place)
    (flaw_judged (kept_by c.args.register.now) (state_of c.args.register.now).protection (certificate_of c.args.certificate.now) (bans_of c.args.bans.now) c.in-Some.flaw c.in-Some.ensures)
