use Rattle.std.proofs.Common.{ℕ, ◌<◌}
use Rattle.scheme.specs.Views.{view}
use Rattle.protection.specs.Excerpts.{renewed}
use Rattle.protection.specs.Tables.{protection_of}
use Rattle.certificates.specs.Views.{certificate_of}
use Rattle.castings.specs.Castings.{cast_state}
use Rattle.castings.specs.Conditions.{MovesKept}
use Rattle.castings.specs.Numbers.{stamps_by}
use Rattle.castings.proofs.moving.moves_kept.Given as goal

abbrev pub invariant-loop-i : goal.invariant-loop-i
invariant-loop-i l =
    (j : ℕ)
    → j < l.i
    → MovesKept (certificate_of l.certificate) (renewed (view l.command).steps) (cast_state (certificate_of l.certificate) (stamps_by (certificate_of l.certificate) l.old)) (protection_of l.after) j
