use Rattle.std.proofs.Common.{ℕ, ◌<◌}
use Rattle.protection.specs.Tables.{protection_of}
use Rattle.certificates.specs.Views.{certificate_of}
use Rattle.castings.specs.Conditions.{CellKept}
use Rattle.castings.proofs.keeping.cells_kept.Given as goal

abbrev pub invariant-loop-i : goal.invariant-loop-i
invariant-loop-i l = (k : ℕ) → k < l.i → (j : ℕ) → CellKept (certificate_of l.certificate) (protection_of l.after) k j
