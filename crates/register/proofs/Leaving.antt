-- What a request leaves untouched, whether it is refused or done.
use Rattle.std.proofs.Common.{ℕ, List, Some, None, Option, refl, sym, subst}
use Rattle.model.specs.Answers.{Answer}
use Rattle.scheme.specs.Commands.{Command}
use Rattle.protection.specs.Commands.{name_at}
use Rattle.protection.specs.Requests.{unless_refused}
use Rattle.protection.proofs.Frames.{run_untouched, all_untouched}
use Rattle.register.specs.Requests.{Asked, UntouchedBy, done, broken_rule, counted}
use Rattle.register.specs.States.{State, Kept}

by_rule : (rule : Option (ℕ × ℕ)) (m : Option Command) (names : List ℕ) (s : State) → UntouchedBy m names s.protection (unless_refused rule s (counted (done m names s.protection) s.count)).protection
by_rule (Some rule) None names s = refl
by_rule (Some rule) (Some m) names s = all_untouched (name_at names) m.steps s.protection
by_rule None None names s = refl
by_rule None (Some m) names s = run_untouched m.cards (name_at names) m.steps s.protection

pub untouched_by : (k : Kept) (before : State) (m : Option Command) (names : List ℕ) (answer : Answer ℕ) (after : State) → Asked k before m names answer after → UntouchedBy m names before.protection after.protection
untouched_by k before m names answer after asked =
    subst (λ (s : State). UntouchedBy m names before.protection s.protection) (sym asked.leaves) (by_rule (broken_rule k before.protection m names) m names before)
