use Rattle.std.proofs.Common.{◌≡◌, true}
use Rattle.model.specs.Counts.{in_scales}
use Rattle.certificates.proofs.Each.{EachBelow}
use Rattle.writing.specs.Spelling.{Spelt}
use Rattle.writing.proofs.scales.are_in_scales.Given as goal

abbrev pub invariant-loop-stamp : goal.invariant-loop-stamp
invariant-loop-stamp l = EachBelow (λ s. (in_scales l.counts s ≡ true) × Spelt s) l.stamp-items l.stamp-index
