use Rattle.std.proofs.Common.{◌≡◌, Bool, true, false, cond, leb, length, Some, None, Ok, Err, Option, sym, refl, ap, ◌∙◌, arith}
use Rattle.std.proofs.lemmas.Bool.{lt-leb}
use Rattle.std.proofs.lemmas.Result.{err_from_is_err_and}
use Rattle.std.specs.Option.{ok_or}
use Rattle.model.specs.declared.fault.Reason.{Reason}
use Rattle.model.specs.declared.fault.Reason.TheVariants.{OutOfRange}
use Rattle.model.specs.declared.stamp.Stamp.{Stamp}
use Rattle.certificates.specs.Views.{certificate_of}
use Rattle.certificates.proofs.items.add_stamp.Goals as goal

out_of_range : (ok : Bool) (s : Stamp) (o : Option Stamp) (r : Reason) → o ≡ cond ok (Some s) None → ok_or o OutOfRange ≡ Err r → (ok ≡ false) × (r ≡ OutOfRange)
out_of_range true s None r is h = cc
out_of_range true s (Some t) r is h = cc
out_of_range false s None r is h = (refl, cc)
out_of_range false s (Some t) r is h = cc

in_range : (ok : Bool) (s : Stamp) (o : Option Stamp) (t : Stamp) → o ≡ cond ok (Some s) None → ok_or o OutOfRange ≡ Ok t → (ok ≡ true) × (t ≡ s)
in_range true s None t is h = cc
in_range true s (Some u) t is h = (refl, cc)
in_range false s None t is h = cc
in_range false s (Some u) t is h = cc

pub returns-in_err-stamp-clause-answer : goal.returns-in_err-stamp-clause-answer
returns-in_err-stamp-clause-answer c =
    let p = err_from_is_err_and c.from_residual.result c.from_residual.ensures.1 in
    let q = out_of_range _ _ _ c.in_err-stamp.field-0.0 c.stamp_in_range.ensures (sym c.ok_or.ensures.value ∙ c.in_err-stamp.was) in
    let room : leb 32 (length (certificate_of c.args.certificate.now).stamps) ≡ false = lt-leb _ _ (omega (arith, ap length c.stamps.ensures)) in
    rw (p.1, p.2, q.1, room, q.0) refl

pub returns-clause-answer : goal.returns-clause-answer
returns-clause-answer c =
    let q = in_range _ _ _ c.in_ok-stamp.stamp c.stamp_in_range.ensures (sym c.ok_or.ensures.value ∙ c.in_ok-stamp.was) in
    rw q.0 (rw q.1 at c.list.ensures.answer)
