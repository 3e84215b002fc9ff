use Rattle.certificates.specs.Views.{certificate_of}
use Rattle.castings.specs.Shifts.{Known}
use Rattle.castings.proofs.shifts.Shifts.of.Given as goal

abbrev pub invariant-loop-u : goal.invariant-loop-u
invariant-loop-u l = Known (certificate_of l.certificate) l.rows
