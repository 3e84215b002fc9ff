use Rattle.std.proofs.Common.{length, vec_items}
use Rattle.script.proofs.Spelling.{Sofar}
use Rattle.script.proofs.hex.read_hex.Given as goal

abbrev pub invariant-loop-rest : goal.invariant-loop-rest
invariant-loop-rest l = Sofar l.text (vec_items l.bytes) l.rest

abbrev pub decreases-loop-rest : goal.decreases-loop-rest
decreases-loop-rest l = length l.rest
