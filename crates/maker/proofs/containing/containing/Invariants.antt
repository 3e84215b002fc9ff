use Rattle.std.proofs.Common.{◌≡◌, ℕ, ◌<◌, cond, None}
use Rattle.stores.specs.Matrices.{is_name}
use Rattle.certificates.specs.Views.{certificate_of}
use Rattle.register.specs.Views.{state_of}
use Rattle.checker.proofs.Strays.{NamesBelow}
use Rattle.maker.specs.Taking.{Under}
use Rattle.maker.proofs.containing.containing.Given as goal

abbrev pub invariant-loop-name : goal.invariant-loop-name
invariant-loop-name g l = record {
  under : Under (state_of l.register).protection (certificate_of l.table);
  below : NamesBelow (certificate_of l.table) (state_of l.register).protection l.name;
  entries : 0 < l.name → (n : ℕ) → (state_of l.register).protection.entry n ≡ cond (is_name n) ((state_of l.register).protection.entry n) None;
}
