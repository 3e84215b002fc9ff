-- A command, line by line.
use Rattle.std.specs.Prelude.{ℕ, cond, List, [], ◌++◌, ◌==◌, codes, decimal}
use Rattle.scheme.specs.Commands.{Command}
use Rattle.scheme.specs.declared.step.Step.{Step}
use Rattle.scheme.specs.declared.test.Test.{Test}
use Rattle.words.specs.declared.role.Role.{Role}
use Rattle.words.specs.Lines.{texts_below, texts_from}
use Rattle.words.specs.Roles.{role, role_words}
use Rattle.words.specs.Words.{test_words, step_words}

-- all but the first come after a comma
abbrev pub parameter_words : (i : ℕ) → Role → List ℕ
parameter_words i r = cond (i == 0) [] (codes ", ") ++ (decimal i ++ (codes " (" ++ (role_words r ++ codes ")")))

abbrev pub parameters_words : Command → List ℕ
parameters_words m = texts_below (λ i. parameter_words i (role m i)) m.params

abbrev pub test_line : (number : ℕ) → Test → List ℕ
test_line n t = codes "  test " ++ (decimal n ++ (codes ": " ++ (test_words t ++ codes "\n")))

abbrev pub step_line : (number : ℕ) → Step → List ℕ
step_line n s = codes "  step " ++ (decimal n ++ (codes ": " ++ (step_words s ++ codes "\n")))

abbrev pub test_lines : List Test → List ℕ
test_lines ts = texts_from test_line 0 ts

abbrev pub step_lines : List Step → List ℕ
step_lines ss = texts_from step_line 0 ss

-- the command with this number: its parameters in the first line, then a line for each test and for each step
abbrev pub listing_words : (number : ℕ) → Command → List ℕ
listing_words n m =
    codes "command "
    ++ (decimal n
    ++ (cond (m.params == 1) (codes ": parameter ") (codes ": parameters ")
    ++ (parameters_words m ++ (codes "\n" ++ (test_lines m.tests ++ step_lines m.steps)))))

-- all commands, by rising number
abbrev pub listings_words : List Command → List ℕ
listings_words ms = texts_from listing_words 0 ms
