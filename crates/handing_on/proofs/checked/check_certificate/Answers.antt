use Rattle.std.proofs.Common.{subst}
use Rattle.std.proofs.lemmas.Result.{err_from_is_err_and}
use Rattle.model.specs.Answers.{answer}
use Rattle.certificates.specs.Reading.{CertificateRead}
use Rattle.certificates.specs.Views.{certificate_of}
use Rattle.handing_on.proofs.Handing.{read_back}
use Rattle.handing_on.proofs.checked.check_certificate.Goals as goal

pub returns-in_err-check : goal.returns-in_err-check
returns-in_err-check g c =
    let p = err_from_is_err_and c.from_residual.result c.from_residual.ensures.1 in rw (p.1, p.2) c.in_err-check.ensures.check

pub returns : goal.returns
returns g c =
    read_back _ _ c.args.certificate.now c.args.bans.now c.read_certificate.result c.in_ok-check.ensures.check
    (subst (λ n. CertificateRead n c.args.certificate.now (answer certificate_of c.read_certificate.result)) c.counts.ensures c.read_certificate.ensures.reading)
