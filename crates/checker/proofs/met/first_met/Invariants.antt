use Rattle.certificates.specs.Views.{bans_of, certificate_of}
use Rattle.checker.proofs.Firsts.{UnmetBelow}
use Rattle.checker.proofs.met.first_met.Given as goal

abbrev pub invariant-loop-number : goal.invariant-loop-number
invariant-loop-number l = UnmetBelow (certificate_of l.certificate) (bans_of l.bans) l.number
