use Rattle.certificates.specs.Views.{certificate_of}
use Rattle.castings.proofs.Noting.{none_known_from, known_from_more}
use Rattle.castings.proofs.shifts.row_of.Goals as goal

pub loop-v-init : goal.loop-v-init
loop-v-init c = none_known_from (certificate_of c.args.certificate.now) c.args.u 32

pub loop-v-preserved : goal.loop-v-preserved
loop-v-preserved c =
    known_from_more (certificate_of c.args.certificate.now) c.args.u c.loop-v.row c.loop-v.v c.loses_nothing.result c.loop-v.invariant c.loses_nothing.ensures
