-- A scheme is a list of commands; this says which are well-formed.
use Rattle.std.specs.Prelude.{Bool, ◌&&◌, List, [], length, nat_le}
use Rattle.std.specs.List.{list_all}
use Rattle.model.specs.declared.counts.Counts.{Counts}
use Rattle.model.specs.Lists.{each_after}
use Rattle.scheme.specs.Commands.{Command, test_fits, step_fits, begin_in_range}
use Rattle.scheme.specs.Steps.{step_valued}
use Rattle.scheme.specs.Tests.{test_valued}

-- One to three parameters; at most sixteen tests and sixteen steps, each in range and with a declared row; and each step
-- well placed after the tests and the steps before it.
abbrev pub well_formed_command : Counts → Command → Bool
well_formed_command c m =
    begin_in_range m.params m.cards
    && (nat_le (length m.tests) 16
    && (nat_le (length m.steps) 16
    && (list_all (test_fits m.params m.cards) m.tests
    && (list_all (test_valued c) m.tests
    && (each_after (step_fits m.params m.cards m.tests) [] m.steps
    && list_all (step_valued c) m.steps)))))

-- at most sixteen commands, each well-formed
abbrev pub well_formed : Counts → List Command → Bool
well_formed c commands = nat_le (length commands) 16 && list_all (well_formed_command c) commands
