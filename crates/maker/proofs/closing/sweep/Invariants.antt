use Rattle.std.proofs.Common.{◌≡◌, false, map}
use Rattle.scheme.specs.Views.{view}
use Rattle.certificates.specs.Views.{certificate_of}
use Rattle.certificates.proofs.Each.{EachBelow}
use Rattle.castings.specs.Closure.{Closed}
use Rattle.checker.specs.Judgements.{ClosedUnderEach}
use Rattle.maker.specs.Closing.{Changed}
use Rattle.maker.proofs.closing.sweep.Given as goal

abbrev pub invariant-loop-command : goal.invariant-loop-command
invariant-loop-command g l = record {
  change : Changed (ClosedUnderEach g.S.Scales.covering (map view l.commands)) (certificate_of l.initial.table) (certificate_of l.table) l.grown;
  unchanged : l.grown ≡ false → EachBelow (Closed g.S.Scales.covering (certificate_of l.table)) (map view l.commands) l.command-index;
}
