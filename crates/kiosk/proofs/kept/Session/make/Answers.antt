-- The register that is on the desk is what the certificate is made for, in a buffer of zeros.
use Rattle.std.proofs.Common.{refl, rules, subst}
use Rattle.model.specs.Answers.{refusal}
use Rattle.certificates.specs.Views.{certificate_of}
use Rattle.register.specs.Views.{kept_by, state_of}
use Rattle.maker.specs.Making.{Made}
use Rattle.handing_on.specs.Handing.{HandedOn}
use Rattle.kiosk.specs.Sessions.{given, denied}
use Rattle.kiosk.specs.Desks.{made_of}
use Rattle.kiosk.proofs.Carrying.{on_register}
use Rattle.kiosk.proofs.kept.Session.make.Goals as goal

pub returns-in-Ok : goal.returns-in-Ok
returns-in-Ok c =
    let r = c.in-Some-Made.register in
    let made = c.in-Ok.made in
    let zeros = c.in_ok-buffer.ensures.items_if_clones_equal (λ y same. same) in
    on_register _ _ {made = made_of c.args.self.now.desk} {m = record { kept = kept_by c.in-Some-Made.register; state = state_of c.in-Some-Made.register; setup = c.in-Some-Made.field-0-1 }} (search rules)
    (given _ _ (subst (λ b. HandedOn (kept_by r) (state_of r) c.args.bans.now b made.tape.items (certificate_of made.certificate)) zeros c.in-Ok.ensures) refl refl)

pub returns-in-Err : goal.returns-in-Err
returns-in-Err c =
    let r = c.in-Some-Made.register in
    let zeros = c.in_ok-buffer.ensures.items_if_clones_equal (λ y same. same) in
    on_register _ _ {made = made_of c.args.self.now.desk} {m = record { kept = kept_by c.in-Some-Made.register; state = state_of c.in-Some-Made.register; setup = c.in-Some-Made.field-0-1 }} (search rules)
    (denied _ (subst (λ b. Made (kept_by r) (state_of r) c.args.bans.now b (refusal c.in-Err.fault) b) zeros c.in-Err.ensures) refl refl)
