use Rattle.std.proofs.Common.{length, vec_items}
use Rattle.script.proofs.Leading.{Taken}
use Rattle.script.proofs.series.read_series.Given as goal

abbrev pub invariant-loop-rest : goal.invariant-loop-rest
invariant-loop-rest l = Taken l.text (vec_items l.numbers) l.rest

abbrev pub decreases-loop-rest : goal.decreases-loop-rest
decreases-loop-rest l = length l.rest
