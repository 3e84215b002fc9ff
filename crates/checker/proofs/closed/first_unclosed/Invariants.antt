use Rattle.certificates.specs.Views.{certificate_of}
use Rattle.register.specs.Views.{kept_by}
use Rattle.checker.proofs.Firsts.{ClosedBelow}
use Rattle.checker.proofs.closed.first_unclosed.Given as goal

abbrev pub invariant-loop-number : goal.invariant-loop-number
invariant-loop-number g l = ClosedBelow (kept_by l.register) (certificate_of l.certificate) l.number
