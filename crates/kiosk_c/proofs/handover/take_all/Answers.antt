use Rattle.std.proofs.Common.{refl}
use Rattle.std.proofs.lemmas.Result.{err_from_is_err_and}
use Rattle.scheme.specs.Views.{commands_of}
use Rattle.kiosk_c.specs.Codes.{bad_scheme, on_register}
use Rattle.kiosk_c.proofs.handover.take_all.Goals as goal

pub returns-in_err-scheme : goal.returns-in_err-scheme
returns-in_err-scheme c =
    let p = err_from_is_err_and c.from_residual.result c.from_residual.ensures.1 in
    rw (p.1, p.2) (bad_scheme _ _ _ c.in_err-scheme.ensures.reading refl)

pub returns-in-Ok : goal.returns-in-Ok
returns-in-Ok c = on_register (commands_of c.in_ok-scheme.scheme.scheme) c.in_ok-scheme.ensures.reading c.check_on.ensures
