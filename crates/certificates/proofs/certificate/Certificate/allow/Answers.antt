use Rattle.std.proofs.Common.{rules}
use Rattle.certificates.specs.Views.{certificate_of}
use Rattle.certificates.proofs.Masks.{mask_more}
use Rattle.certificates.proofs.certificate.Certificate.allow.Goals as goal

pub returns-clause-after : goal.returns-clause-after
returns-clause-after c =
    λ i. record { stamps = (certificate_of c.args.self.now).stamps; masks = mask_more c.args.self.now.masks c.args.u c.args.v c.in_ok-place.place c.joined.result c.args.mask (search rules) (search rules) c.joined.ensures.value i }
