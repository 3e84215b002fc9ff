use Rattle.changes.specs.Names.{repeats}
use Rattle.protection.proofs.Requests.{Clear}
use Rattle.changes.proofs.names.binding.first_repeated.Given as goal

abbrev pub invariant-loop-i : goal.invariant-loop-i
invariant-loop-i l = Clear (repeats l.names) 0 l.i
