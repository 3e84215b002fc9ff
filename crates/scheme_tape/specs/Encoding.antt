-- The bytes of a scheme: its commands one after the other, each with its tests and then its steps between 10 and 1F.
use Rattle.std.specs.Prelude.{ℕ, List, ◌++◌}
use Rattle.std.specs.List.{flat_map}
use Rattle.scheme.specs.Commands.{Command}
use Rattle.scheme_tape.specs.Instructions.{begins, tests, steps, ends, code}

abbrev pub encode_command : Command → List ℕ
encode_command m =
    code (begins m.params m.cards)
    ++ (flat_map (λ t. code (tests t)) m.tests
    ++ (flat_map (λ s. code (steps s)) m.steps
    ++ code ends))

abbrev pub encode : List Command → List ℕ
encode commands = flat_map encode_command commands
