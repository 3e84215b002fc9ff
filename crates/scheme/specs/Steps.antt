-- The rules on one step of a command.
use Rattle.std.specs.Prelude.{ℕ, Bool, true, false, not, ◌&&◌, ◌||◌, List, ◌==◌, nat_lt}
use Rattle.std.specs.List.{list_any}
use Rattle.model.specs.declared.counts.Counts.{Counts}
use Rattle.model.specs.Counts.{is_value}
use Rattle.model.specs.Masks.{has}
use Rattle.scheme.specs.declared.step.Step.{Step}
use Rattle.scheme.specs.declared.step.Step.TheVariants.{Enter, Delete, Set, Create, Destroy}
use Rattle.scheme.specs.declared.test.Test.{Test}
use Rattle.scheme.specs.Tests.{names_in_test}

-- parameter n is one of those that the step names
abbrev pub names_in_step : ℕ → Step → Bool
names_in_step n (Enter r i j) = n == i || n == j
names_in_step n (Delete r i j) = n == i || n == j
names_in_step n (Set i k v) = n == i
names_in_step n (Create i) = n == i
names_in_step n (Destroy i) = n == i

-- the step creates parameter n
abbrev pub creates_in_step : ℕ → Step → Bool
creates_in_step n (Enter r i j) = false
creates_in_step n (Delete r i j) = false
creates_in_step n (Set i k v) = false
creates_in_step n (Create i) = n == i
creates_in_step n (Destroy i) = false

-- the step destroys parameter n
abbrev pub destroys_in_step : ℕ → Step → Bool
destroys_in_step n (Enter r i j) = false
destroys_in_step n (Delete r i j) = false
destroys_in_step n (Set i k v) = false
destroys_in_step n (Create i) = false
destroys_in_step n (Destroy i) = n == i

-- in a command of p parameters: parameters, right and attribute are in range
abbrev pub step_shaped : (p : ℕ) → Step → Bool
step_shaped p (Enter r i j) = nat_lt r 16 && (nat_lt i p && nat_lt j p)
step_shaped p (Delete r i j) = nat_lt r 16 && (nat_lt i p && nat_lt j p)
step_shaped p (Set i k v) = nat_lt i p && nat_lt k 4
step_shaped p (Create i) = nat_lt i p
step_shaped p (Destroy i) = nat_lt i p

-- a value that is set is a value of its attribute, and so not null
abbrev pub step_valued : Counts → Step → Bool
step_valued c (Enter r i j) = true
step_valued c (Delete r i j) = true
step_valued c (Set i k v) = is_value c k v
step_valued c (Create i) = true
step_valued c (Destroy i) = true

-- bit i of the declared cards is set where i is the row of a cell
abbrev pub step_row_declared : (cards : ℕ) → Step → Bool
step_row_declared cards (Enter r i j) = has cards i
step_row_declared cards (Delete r i j) = has cards i
step_row_declared cards (Set i k v) = true
step_row_declared cards (Create i) = true
step_row_declared cards (Destroy i) = true

-- The step may follow these tests and the steps before it: what it names is not destroyed before, what it creates is
-- named by none of them, and what it destroys is created by none of them.
abbrev pub well_placed : List Test → List Step → Step → Bool
well_placed tests before (Enter r i j) = not (list_any (destroys_in_step i) before) && not (list_any (destroys_in_step j) before)
well_placed tests before (Delete r i j) = not (list_any (destroys_in_step i) before) && not (list_any (destroys_in_step j) before)
well_placed tests before (Set i k v) = not (list_any (destroys_in_step i) before)
well_placed tests before (Create i) = not (list_any (names_in_test i) tests) && not (list_any (names_in_step i) before)
well_placed tests before (Destroy i) = not (list_any (creates_in_step i) before) && not (list_any (destroys_in_step i) before)
