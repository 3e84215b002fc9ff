use Rattle.std.proofs.Common.{refl}
use Rattle.certificates.specs.Views.{certificate_of}
use Rattle.register.specs.Views.{state_of}
use Rattle.checker.proofs.Strays.{unlisted_entry, by_row}
use Rattle.checker.proofs.contained.stray_at.Goals as goal

pub returns-then-is_unlisted-clause-stray : goal.returns-then-is_unlisted-clause-stray
returns-then-is_unlisted-clause-stray g c =
    (unlisted_entry (certificate_of c.args.certificate.now) (state_of c.args.register.now).protection c.args.name c.entry.result c.is_unlisted.result c.entry.ensures.value c.is_unlisted.ensures c.if-is_unlisted.true, refl)

pub returns-clause-stray : goal.returns-clause-stray
returns-clause-stray g c =
    by_row (certificate_of c.args.certificate.now) (state_of c.args.register.now).protection c.args.name c.entry.result c.is_unlisted.result c.entry.ensures.value c.is_unlisted.ensures c.stray_cell.result _ c.if-is_unlisted.false c.stray_cell.ensures
