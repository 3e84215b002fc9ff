use Rattle.certificates.specs.Views.{bans_of, certificate_of}
use Rattle.register.specs.Views.{kept_by, state_of}
use Rattle.maker.proofs.Refusing.{handed_into}
use Rattle.maker.proofs.make.write_least.Goals as goal

pub returns : goal.returns
returns g c =
    handed_into (kept_by c.args.register.now) (state_of c.args.register.now).protection (bans_of c.args.bans.now) (certificate_of c.in_ok-certificate.certificate) c.in_ok-certificate.ensures.0 c.in_ok-certificate.ensures.1
    c.args.buffer.now c.requires c.write_certificate.new.buffer c.write_certificate.result
    (rw c.counts.ensures at c.write_certificate.ensures.writes)
