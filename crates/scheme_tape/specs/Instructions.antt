-- What one order of the scheme tape says, and its bytes. A test's or a step's case has the order byte as its number and
-- the operands as its values.
use Rattle.std.specs.Prelude.{ℕ, List, [], ◌∷◌}
use Rattle.scheme.specs.declared.step.Step.{Step}
use Rattle.scheme.specs.declared.step.Step.TheVariants.{Enter, Delete, Set, Create, Destroy}
use Rattle.scheme.specs.declared.test.Test.{Test}
use Rattle.scheme.specs.declared.test.Test.TheVariants.{Holds, Is, IsNot, Covers}
use Rattle.tapes.specs.Orders.{Case, spelt}
use Rattle.tapes.specs.Values.{value_on_tape}

-- begin a command with these parameters and declared cards; one test; one step; end the command
pub data Instruction : Type 0 where
  begins : (params cards : ℕ) → Instruction
  tests : Test → Instruction
  steps : Step → Instruction
  ends : Instruction

abbrev pub test_case : Test → Case
test_case (Holds r i j) = record { number = 0x20; values = r ∷ i ∷ j ∷ [] }
test_case (Is i k v) = record { number = 0x21; values = i ∷ k ∷ value_on_tape v ∷ [] }
test_case (IsNot i k v) = record { number = 0x22; values = i ∷ k ∷ value_on_tape v ∷ [] }
test_case (Covers i k j) = record { number = 0x23; values = i ∷ k ∷ j ∷ [] }

abbrev pub step_case : Step → Case
step_case (Enter r i j) = record { number = 0x30; values = r ∷ i ∷ j ∷ [] }
step_case (Delete r i j) = record { number = 0x31; values = r ∷ i ∷ j ∷ [] }
step_case (Set i k v) = record { number = 0x32; values = i ∷ k ∷ v ∷ [] }
step_case (Create i) = record { number = 0x33; values = i ∷ [] }
step_case (Destroy i) = record { number = 0x34; values = i ∷ [] }

abbrev pub instruction_case : Instruction → Case
instruction_case (begins params cards) = record { number = 0x10; values = params ∷ cards ∷ [] }
instruction_case (tests t) = test_case t
instruction_case (steps s) = step_case s
instruction_case ends = record { number = 0x1F; values = [] }

abbrev pub code : Instruction → List ℕ
code i = spelt (instruction_case i)
