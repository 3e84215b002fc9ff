use Rattle.certificates.specs.Views.{certificate_of}
use Rattle.castings.proofs.Noting.{none_known, known_more}
use Rattle.castings.proofs.shifts.Shifts.of.Goals as goal

pub loop-u-init : goal.loop-u-init
loop-u-init c = none_known (certificate_of c.args.certificate.now) 32 32

pub loop-u-preserved : goal.loop-u-preserved
loop-u-preserved c =
    known_more (certificate_of c.args.certificate.now) c.loop-u.rows c.loop-u.u c.row_of-row.result c.loop-u.invariant c.row_of-row.ensures
