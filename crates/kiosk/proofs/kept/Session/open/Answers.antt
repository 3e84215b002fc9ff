-- The register that is on the desk carries the call out.
use Rattle.std.proofs.Common.{refl, rules}
use Rattle.register.specs.Views.{kept_by, state_of}
use Rattle.kiosk.proofs.Carrying.{carries, fault_told}
use Rattle.kiosk.proofs.kept.Session.open.Goals as goal

pub returns-in_ok-open-in-Some-Made : goal.returns-in_ok-open-in-Some-Made
returns-in_ok-open-in-Some-Made c = carries _ _ _ _ (record { kept = kept_by c.in-Some-Made.register; state = state_of c.in-Some-Made.register; setup = c.in-Some-Made.field-0-1 }) _ _ _ _ (search rules) c.open.ensures.kept c.in_ok-open-in-Some-Made.ensures.opens refl

pub returns-in_err-open-in-Some-Made : goal.returns-in_err-open-in-Some-Made
returns-in_err-open-in-Some-Made c =
    carries _ _ _ _ (record { kept = kept_by c.in-Some-Made.register; state = state_of c.in-Some-Made.register; setup = c.in-Some-Made.field-0-1 }) _ _ _ _ (search rules) c.open.ensures.kept c.in_err-open-in-Some-Made.ensures.opens (search (rules, fault_told))
