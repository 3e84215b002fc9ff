use Rattle.std.proofs.Common.{◌≡◌, take}
use Rattle.model.specs.Bounded.{listed}
use Rattle.changes.proofs.names.binding.list_of.Given as goal

abbrev pub invariant-loop-name : goal.invariant-loop-name
invariant-loop-name l = listed l.items ≡ take l.name-index l.names
