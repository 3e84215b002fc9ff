-- What the stored values stand for.
use Rattle.std.specs.Prelude.{List, map}
use Rattle.model.specs.Bounded.{listed}
use Rattle.scheme.specs.declared.command.Command.{Command as Stored}
use Rattle.scheme.specs.declared.scheme.Scheme.{Scheme}
use Rattle.scheme.specs.Commands.{Command}

abbrev pub view : Stored → Command
view m = record { params = m.parameters.count; cards = m.parameters.cards; tests = listed m.tests; steps = listed m.steps }

abbrev pub commands_of : Scheme → List Command
commands_of s = map view (listed s.commands)
