-- A command as plain data, and the rules on what may be added to one that is being written.
use Rattle.std.specs.Prelude.{ℕ, ◌^◌, Bool, not, ◌&&◌, List, [], ◌∷◌, ◌++◌, length, nat_le, nat_lt}
use Rattle.model.specs.declared.counts.Counts.{Counts}
use Rattle.scheme.specs.declared.step.Step.{Step}
use Rattle.scheme.specs.declared.test.Test.{Test}
use Rattle.scheme.specs.Steps.{step_shaped, step_valued, step_row_declared, well_placed}
use Rattle.scheme.specs.Tests.{test_shaped, test_valued, test_row_declared}

-- how many parameters; bit i of `cards` declares parameter i a card; the tests and then the steps in order
pub record Command : Type 0 where
  pub params : ℕ
  pub cards : ℕ
  pub tests : List Test
  pub steps : List Step

-- a test keeps the rules that hang on no scale
abbrev pub test_fits : (params cards : ℕ) → Test → Bool
test_fits params cards t = test_shaped params t && test_row_declared cards t

-- a step does, after these tests and the steps before it
abbrev pub step_fits : (params cards : ℕ) → List Test → List Step → Step → Bool
step_fits params cards tests before s = step_shaped params s && (step_row_declared cards s && well_placed tests before s)

-- one to three parameters, and cards declared among them only
abbrev pub begin_in_range : (params cards : ℕ) → Bool
begin_in_range params cards = nat_le 1 params && (nat_le params 3 && nat_lt cards (2 ^ params))

abbrev pub begun : (params cards : ℕ) → Command
begun params cards = record { params = params; cards = cards; tests = []; steps = [] }

abbrev pub with_test : Command → Test → Command
with_test m t = record { params = m.params; cards = m.cards; tests = m.tests ++ t ∷ []; steps = m.steps }

abbrev pub with_step : Command → Step → Command
with_step m s = record { params = m.params; cards = m.cards; tests = m.tests; steps = m.steps ++ s ∷ [] }

-- Rules by their numbers, each with whether it is broken: 3 out of place, 4 too many, 5 out of range, 6 against the
-- rules on rows and on created and destroyed parameters.
abbrev pub begin_rules : (params cards : ℕ) → List (ℕ × Bool)
begin_rules params cards = (5, not (begin_in_range params cards)) ∷ []

abbrev pub test_rules : Counts → Command → Test → List (ℕ × Bool)
test_rules c m t =
    (3, nat_lt 0 (length m.steps))
    ∷ (4, nat_le 16 (length m.tests))
    ∷ (5, not (test_shaped m.params t && test_valued c t))
    ∷ (6, not (test_row_declared m.cards t))
    ∷ []

abbrev pub step_rules : Counts → Command → Step → List (ℕ × Bool)
step_rules c m s =
    (4, nat_le 16 (length m.steps))
    ∷ (5, not (step_shaped m.params s && step_valued c s))
    ∷ (6, not (step_row_declared m.cards s && well_placed m.tests m.steps s))
    ∷ []
