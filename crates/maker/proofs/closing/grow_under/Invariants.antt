use Rattle.std.proofs.Common.{◌≡◌, false, [], ◌∷◌}
use Rattle.scheme.specs.Views.{view}
use Rattle.certificates.specs.Views.{certificate_of}
use Rattle.castings.specs.Closure.{Closed}
use Rattle.maker.specs.Closing.{Changed}
use Rattle.maker.specs.Growing.{room}
use Rattle.maker.proofs.closing.grow_under.Given as goal

abbrev pub invariant-loop-escape : goal.invariant-loop-escape
invariant-loop-escape g l = record {
  change : Changed (λ d. Closed g.S.Scales.covering d (view l.command)) (certificate_of l.initial.table) (certificate_of l.table) l.grown;
  first : l.grown ≡ false → l.place ≡ 0 ∷ 0 ∷ 0 ∷ [];
}

abbrev pub decreases-loop-escape : goal.decreases-loop-escape
decreases-loop-escape g l = room (certificate_of l.table)
