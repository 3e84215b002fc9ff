-- The register that is on the desk is what the certificate is checked on.
use Rattle.std.proofs.Common.{refl, rules}
use Rattle.kiosk.specs.Sessions.{passed, failed}
use Rattle.register.specs.Views.{kept_by, state_of}
use Rattle.kiosk.specs.Desks.{made_of}
use Rattle.kiosk.proofs.Carrying.{on_register}
use Rattle.kiosk.proofs.kept.Session.check.Goals as goal

pub returns-in-Ok : goal.returns-in-Ok
returns-in-Ok c = on_register _ _ {made = made_of c.args.self.now.desk} {m = record { kept = kept_by c.in-Some-Made.register; state = state_of c.in-Some-Made.register; setup = c.in-Some-Made.field-0-1 }} (search rules) (passed _ c.in-Ok.ensures refl refl)

pub returns-in-Err : goal.returns-in-Err
returns-in-Err c = on_register _ _ {made = made_of c.args.self.now.desk} {m = record { kept = kept_by c.in-Some-Made.register; state = state_of c.in-Some-Made.register; setup = c.in-Some-Made.field-0-1 }} (search rules) (failed _ _ c.in-Err.ensures c.show_fault.ensures refl refl)
