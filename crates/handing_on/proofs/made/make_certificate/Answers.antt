use Rattle.std.proofs.Common.{take, drop, length, subst, sym, ap, ◌∙◌}
use Rattle.std.proofs.lemmas.List.{take_at}
use Rattle.std.proofs.lemmas.Result.{err_from_is_err_and}
use Rattle.model.specs.Answers.{accepted, refusal}
use Rattle.certificates.specs.Reading.{CertificateRead}
use Rattle.certificates.specs.Views.{certificate_of}
use Rattle.register.specs.Views.{kept_by, state_of}
use Rattle.maker.specs.Making.{Made}
use Rattle.handing_on.specs.Handing.{HandedOn}
use Rattle.handing_on.proofs.Handing.{left_refused, lawful, handed}
use Rattle.handing_on.proofs.made.make_certificate.Goals as goal

pub returns-in_err-length : goal.returns-in_err-length
returns-in_err-length g c =
    let p = err_from_is_err_and c.from_residual.result c.from_residual.ensures.1 in
    rw (p.1, p.2)
    (left_refused (kept_by c.args.register.now) (state_of c.args.register.now) c.args.bans.now c.args.buffer.items
    (subst (λ b. Made (kept_by c.args.register.now) (state_of c.args.register.now) c.args.bans.now b (refusal c.in_err-length.field-0.0) c.make.new.buffer) c.as_mut_slice.ensures.value c.in_err-length.ensures.make))

pub returns-in_err-certificate : goal.returns-in_err-certificate
returns-in_err-certificate g c =
    let p = err_from_is_err_and c.from_residual-in_err-certificate.result c.from_residual-in_err-certificate.ensures.1 in
    let whole = take_at c.make.new.buffer (drop (length c.make.new.buffer) c.args.buffer.items) c.args.buffer.len (c.make.auto.buffer ∙ c.as_mut_slice.ensures.len) in
    let tape = c.as_slice.ensures.value ∙ c.truncate.ensures.items ∙ ap (λ b. take c.in_ok-length.length b) whole in
    rw (p.1, p.2)
    (absurd (lawful (kept_by c.args.register.now) (state_of c.args.register.now) c.args.bans.now c.as_mut_slice.result.now c.in_ok-length.ensures.make
    (subst (λ t. CertificateRead (kept_by c.args.register.now).counts t (refusal c.in_err-certificate.field-0.0)) tape
    (subst (λ n. CertificateRead n c.as_slice.result.now (refusal c.in_err-certificate.field-0.0)) c.counts.ensures c.in_err-certificate.ensures.reading))))

pub returns : goal.returns
returns g c =
    let kept = kept_by c.args.register.now in
    let state = state_of c.args.register.now in
    let certificate = certificate_of c.in_ok-certificate.certificate in
    let whole = take_at c.make.new.buffer (drop (length c.make.new.buffer) c.args.buffer.items) c.args.buffer.len (c.make.auto.buffer ∙ c.as_mut_slice.ensures.len) in
    let tape = c.truncate.ensures.items ∙ ap (λ b. take c.in_ok-length.length b) whole in
    let read =
    subst (λ t. CertificateRead kept.counts t (accepted certificate)) (c.as_slice.ensures.value ∙ tape)
    (subst (λ n. CertificateRead n c.as_slice.result.now (accepted certificate)) c.counts.ensures c.in_ok-certificate.ensures.reading)
    in
    subst (λ b. HandedOn kept state c.args.bans.now b c.truncate.new.self.items certificate) c.as_mut_slice.ensures.value
    (subst (λ t. HandedOn kept state c.args.bans.now c.as_mut_slice.result.now t certificate) (sym tape)
    (handed kept state c.args.bans.now c.as_mut_slice.result.now c.in_ok-length.ensures.make read))
