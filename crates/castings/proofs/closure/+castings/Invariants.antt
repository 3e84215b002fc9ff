use Rattle.std.proofs.Common.{ℕ, ◌+◌, ◌-◌, ◌*◌, ◌<◌, Some}
use Rattle.scheme.specs.Views.{view}
use Rattle.certificates.specs.Certificates.{stamp_at}
use Rattle.certificates.specs.Views.{certificate_of}
use Rattle.castings.specs.Binding.{ClosedWith}
use Rattle.castings.specs.Numbers.{stamps_by}
use Rattle.castings.proofs.closure.+castings.Given as goal

abbrev pub decreases-closed_from : goal.decreases-closed_from
decreases-closed_from g l = 2 * (3 - l.d) + 1

abbrev pub decreases-closed_with : goal.decreases-closed_with
decreases-closed_with g l = 2 * (3 - l.d)

abbrev pub invariant-closed_from-loop-number : goal.invariant-closed_from-loop-number
invariant-closed_from-loop-number g l =
    (k : ℕ)
    → k < l.number
    → ClosedWith g.S.Scales.covering (certificate_of l.certificate) (view l.command) (stamps_by (certificate_of l.certificate) l.numbers) l.d l.place (stamp_at (certificate_of l.certificate) (Some k))
