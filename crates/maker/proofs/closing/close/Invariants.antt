use Rattle.std.proofs.Common.{map}
use Rattle.scheme.specs.Views.{view}
use Rattle.certificates.specs.Views.{certificate_of}
use Rattle.checker.specs.Judgements.{ClosedUnderEach}
use Rattle.maker.specs.Growing.{GrownFor, room}
use Rattle.maker.proofs.closing.close.Given as goal

abbrev pub invariant-loop : goal.invariant-loop
invariant-loop g l = GrownFor (ClosedUnderEach g.S.Scales.covering (map view l.commands)) (certificate_of l.initial.table) (certificate_of l.table)

abbrev pub decreases-loop : goal.decreases-loop
decreases-loop g l = room (certificate_of l.table)
