use Rattle.certificates.specs.Views.{bans_of, certificate_of}
use Rattle.register.specs.Views.{kept_by, state_of}
use Rattle.maker.proofs.Refusing.{too_many, met}
use Rattle.maker.proofs.make.least_unmet.Goals as goal

pub returns-in_err-certificate : goal.returns-in_err-certificate
returns-in_err-certificate g c =
    rw c.from_residual.ensures (too_many (kept_by c.args.register.now) (state_of c.args.register.now).protection (bans_of c.args.bans.now) c.in_err-certificate.ensures)

pub returns-in-Some : goal.returns-in-Some
returns-in-Some g c =
    let found = c.in-Some.field-0 in
    met (kept_by c.args.register.now) (state_of c.args.register.now).protection (bans_of c.args.bans.now) (certificate_of c.in_ok-certificate.certificate) c.in_ok-certificate.ensures found.0 found.1 found.2 c.in-Some.ensures
