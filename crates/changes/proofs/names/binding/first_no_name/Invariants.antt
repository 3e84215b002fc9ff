use Rattle.std.proofs.Common.{not}
use Rattle.stores.specs.Matrices.{is_name}
use Rattle.protection.specs.Commands.{name_at}
use Rattle.protection.proofs.Requests.{Clear}
use Rattle.changes.proofs.names.binding.first_no_name.Given as goal

abbrev pub invariant-loop-i : goal.invariant-loop-i
invariant-loop-i l = Clear (λ i. not (is_name (name_at l.names i))) 0 l.i
