use Rattle.scheme.specs.Views.{view}
use Rattle.protection.specs.Requests.{standing_wrong}
use Rattle.protection.specs.Tables.{protection_of}
use Rattle.protection.proofs.Requests.{Clear}
use Rattle.register.proofs.admission.first_misplaced.Given as goal

abbrev pub invariant-loop-i : goal.invariant-loop-i
invariant-loop-i l = Clear (standing_wrong (view l.command) (protection_of l.seen)) 0 l.i
