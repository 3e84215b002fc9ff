use Rattle.scheme.specs.Views.{view}
use Rattle.protection.proofs.Keeping.{keeps_sound}
use Rattle.protection.proofs.Shaping.{command_runs_whole, three_shaped}
use Rattle.protection.proofs.outcome.outcome.Goals as goal

pub after_all-requires : goal.after_all-requires
after_all-requires c = rw c.steps.ensures (three_shaped c.args.command.now)

pub returns-clause-whole : goal.returns-clause-whole
returns-clause-whole c = command_runs_whole c.args.command.now

pub returns-clause-sound : goal.returns-clause-sound
returns-clause-sound c = keeps_sound (view c.args.command.now)
