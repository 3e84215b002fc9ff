use Rattle.std.proofs.Common.{ap}
use Rattle.castings.proofs.closure.kept.Goals as goal

pub returns : goal.returns
returns c = record { same = ap (λ p. p.entry) c.seen-before.ensures; breach = c.in-Err.ensures }
