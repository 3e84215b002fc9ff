use Rattle.std.proofs.Common.{ℕ, ◌<◌}
use Rattle.protection.specs.Tables.{protection_of}
use Rattle.certificates.specs.Views.{certificate_of}
use Rattle.castings.specs.Conditions.{CellKept}
use Rattle.castings.proofs.keeping.row_kept.Given as goal

abbrev pub invariant-loop-j : goal.invariant-loop-j
invariant-loop-j l = (k : ℕ) → k < l.j → CellKept (certificate_of l.certificate) (protection_of l.after) l.i k
