use Rattle.std.proofs.Common.{refl, sym, ◌∙◌, arith}
use Rattle.certificates.specs.Views.{certificate_of}
use Rattle.certificates.proofs.Numbers.{by_numbers}
use Rattle.certificates.proofs.certificate.Certificate.between_numbers.Goals as goal

pub returns : goal.returns
returns c =
    let t = certificate_of c.args.self.now in
    c.mask.ensures
    ∙ by_numbers t c.args.self.now.apart c.in-Some-Some.u c.in-Some-Some.v (sym c.is_subject.ensures ∙ c.if-not-is_subject.false) (omega (arith, c.if-v-len.false, c.len.ensures))
    ∙ rw (c.in-Some-Some.is-0, c.in-Some-Some.is-1) refl
