use Rattle.certificates.specs.Views.{certificate_of}
use Rattle.castings.specs.Shifts.{KnownFrom}
use Rattle.castings.proofs.shifts.row_of.Given as goal

abbrev pub invariant-loop-v : goal.invariant-loop-v
invariant-loop-v l = KnownFrom (certificate_of l.certificate) l.u l.row
