use Rattle.std.proofs.lemmas.Result.{err_from_is_err_and}
use Rattle.model.specs.Faults.{layer_number, reason_number}
use Rattle.certificates.specs.Views.{bans_of, certificate_of}
use Rattle.register.specs.Views.{kept_by, state_of}
use Rattle.checker.specs.Checks.{judged}
use Rattle.checker.proofs.Witnessing.{refused_check}
use Rattle.checker.proofs.check.answer_by.Goals as goal

pub returns-in_err-certificate : goal.returns-in_err-certificate
returns-in_err-certificate g c =
    let p = err_from_is_err_and c.from_residual.result c.from_residual.ensures.1 in
    let f = c.in_err-certificate.field-0.0 in
    rw (p.1, p.2)
    (refused_check (kept_by c.args.register.now) (state_of c.args.register.now) c.args.certificate.now c.args.bans.now (layer_number f.layer) (reason_number f.reason) f.place c.in_err-certificate.ensures)

pub returns : goal.returns
returns g c =
    judged (certificate_of c.in_ok-certificate.certificate) (bans_of c.in_ok-certificate.bans) c.in_ok-certificate.ensures.0 c.in_ok-certificate.ensures.1 c.judge.ensures
