use Rattle.std.proofs.Common.{◌≡◌, ℕ, ◌<◌, Some, slice_get}
use Rattle.model.specs.declared.stamp.Stamp.{Stamp}
use Rattle.certificates.specs.Certificates.{stamp_at}
use Rattle.certificates.specs.Views.{certificate_of}
use Rattle.castings.specs.Conditions.{MoveKept}
use Rattle.castings.proofs.moving.move_kept_on_all.Given as goal

abbrev pub invariant-loop-other : goal.invariant-loop-other
invariant-loop-other l =
    (k : ℕ)
    → k < l.other
    → (w : Stamp)
    → slice_get (certificate_of l.certificate).stamps k ≡ Some w
    → MoveKept (certificate_of l.certificate) (stamp_at (certificate_of l.certificate) l.old) (stamp_at (certificate_of l.certificate) l.new) w
