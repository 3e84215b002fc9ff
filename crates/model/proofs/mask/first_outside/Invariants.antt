use Rattle.model.proofs.Containing.{WithinBelow}
use Rattle.model.proofs.mask.first_outside.Given as goal

abbrev pub invariant-loop-right : goal.invariant-loop-right
invariant-loop-right l = WithinBelow l.right l.m l.n
