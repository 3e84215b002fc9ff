-- The register that is on the desk carries the call out.
use Rattle.std.proofs.Common.{refl, rules}
use Rattle.register.specs.Views.{kept_by, state_of}
use Rattle.kiosk.proofs.Carrying.{carries, fault_told}
use Rattle.kiosk.proofs.kept.Session.request.Goals as goal

pub returns-in_ok-request-in-Some-Made : goal.returns-in_ok-request-in-Some-Made
returns-in_ok-request-in-Some-Made c = carries _ _ _ _ (record { kept = kept_by c.in-Some-Made.register; state = state_of c.in-Some-Made.register; setup = c.in-Some-Made.field-0-1 }) _ _ _ _ (search rules) c.request.ensures.kept c.in_ok-request-in-Some-Made.ensures.request refl

pub returns-in_err-request-in-Some-Made : goal.returns-in_err-request-in-Some-Made
returns-in_err-request-in-Some-Made c =
    carries _ _ _ _ (record { kept = kept_by c.in-Some-Made.register; state = state_of c.in-Some-Made.register; setup = c.in-Some-Made.field-0-1 }) _ _ _ _ (search rules) c.request.ensures.kept c.in_err-request-in-Some-Made.ensures.request (search (rules, fault_told))
