-- What an order of any tape says on the scheme tape.
use Rattle.std.specs.Prelude.{ℕ, List, Some, None, Option, slice_index}
use Rattle.scheme.specs.declared.step.Step.TheVariants.{Enter as EnterStep, Delete as DeleteStep, Set as SetStep, Create as CreateStep, Destroy as DestroyStep}
use Rattle.scheme.specs.declared.test.Test.TheVariants.{Holds as HoldsTest, Is as IsTest, IsNot as IsNotTest, Covers as CoversTest}
use Rattle.tapes.specs.declared.order.Order.{Order}
use Rattle.tapes.specs.declared.order.Order.TheVariants.{Begin, End, Holds, Is, IsNot, Covers, Enter, Delete, Set, Create, Destroy, Card, Thing, Right, Stamp, Allow, Ban}
use Rattle.tapes.specs.Values.{value_read}
use Rattle.scheme_tape.specs.Instructions.{Instruction, begins, tests, steps, ends}

-- operand k
abbrev pub op : List ℕ → ℕ → ℕ
op x k = slice_index x k

-- the instruction that the order gives; an order of another tape gives none
abbrev pub said : Order → Option Instruction
said (Begin x) = Some (begins (op x.now 0) (op x.now 1))
said End = Some ends
said (Holds x) = Some (tests (HoldsTest (op x.now 0) (op x.now 1) (op x.now 2)))
said (Is x) = Some (tests (IsTest (op x.now 0) (op x.now 1) (value_read (op x.now 2))))
said (IsNot x) = Some (tests (IsNotTest (op x.now 0) (op x.now 1) (value_read (op x.now 2))))
said (Covers x) = Some (tests (CoversTest (op x.now 0) (op x.now 1) (op x.now 2)))
said (Enter x) = Some (steps (EnterStep (op x.now 0) (op x.now 1) (op x.now 2)))
said (Delete x) = Some (steps (DeleteStep (op x.now 0) (op x.now 1) (op x.now 2)))
said (Set x) = Some (steps (SetStep (op x.now 0) (op x.now 1) (op x.now 2)))
said (Create x) = Some (steps (CreateStep (op x.now 0)))
said (Destroy x) = Some (steps (DestroyStep (op x.now 0)))
said (Card x) = None
said (Thing x) = None
said (Right x) = None
said (Stamp x) = None
said (Allow x) = None
said (Ban x) = None
