use Rattle.std.proofs.Common.{refl, ◌∙◌, subst}
use Rattle.std.proofs.lemmas.Result.{err_from_is_err_and}
use Rattle.model.specs.Answers.{answer, accepted, refusal}
use Rattle.register.specs.Openings.{Opens}
use Rattle.register.specs.Views.{state_of}
use Rattle.checker.specs.Checks.{Checked}
use Rattle.kiosk_c.specs.Codes.{bad_opening, checked}
use Rattle.kiosk_c.proofs.handover.check_on.Goals as goal

pub returns-in_err-open : goal.returns-in_err-open
returns-in_err-open c =
    let p = err_from_is_err_and c.from_residual.result c.from_residual.ensures.1 in
    rw (p.1, p.2) (bad_opening _ _ _ _ (subst (λ k. Opens k c.args.opening.now (refusal c.in_err-open.field-0.0) (state_of c.open.new.register)) c.begin-register.ensures.kept c.in_err-open.ensures.opens) refl)

pub returns : goal.returns
returns c =
    checked (state_of c.open.new.register)
    (subst (λ k. Opens k c.args.opening.now (accepted tt) (state_of c.open.new.register)) c.begin-register.ensures.kept c.in_ok-open.ensures.opens)
    (subst (λ k. Checked k (state_of c.open.new.register) c.args.certificate.now c.args.bans.now (answer (λ done. done) c.check.result)) (c.in_ok-open.ensures.kept ∙ c.begin-register.ensures.kept) c.check.ensures.check)
