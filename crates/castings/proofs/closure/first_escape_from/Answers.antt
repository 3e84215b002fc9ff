use Rattle.scheme.specs.Views.{view}
use Rattle.castings.proofs.Binding.{ready_at_first}
use Rattle.castings.proofs.closure.first_escape_from.Goals as goal

pub closed_from-requires-clause-passes : goal.closed_from-requires-clause-passes
closed_from-requires-clause-passes g c = ready_at_first g.S.Scales.covering _ (view c.args.command.now).tests
