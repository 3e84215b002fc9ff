use Rattle.std.proofs.Common.{ℕ, ◌<◌, ◌≤◌}
use Rattle.certificates.specs.Views.{certificate_of}
use Rattle.register.specs.Views.{state_of}
use Rattle.checker.specs.Containing.{NameInside}
use Rattle.checker.proofs.Strays.{NamesBelow}
use Rattle.checker.proofs.contained.first_stray.Given as goal

abbrev pub invariant-loop-name : goal.invariant-loop-name
invariant-loop-name g l = record {
  below : NamesBelow (certificate_of l.certificate) (state_of l.register).protection l.name;
  past : 0 < l.name → (n : ℕ) → 64 ≤ n → NameInside (certificate_of l.certificate) (state_of l.register).protection n;
}
