-- The language of the scheme tape: its orders can be told apart, and the table of orders finds each of them.
use Rattle.std.proofs.Common.{◌≡◌, ℕ, true, cond, eqb, List, [], ◌∷◌, length, is_some, Some, None, Option, slice_index, refl, ap}
use Rattle.model.specs.declared.counts.Counts.{Counts}
use Rattle.scheme.specs.declared.step.Step.TheVariants.{Enter, Delete, Set, Create, Destroy}
use Rattle.scheme.specs.declared.test.Test.TheVariants.{Holds, Is, IsNot, Covers}
use Rattle.tapes.specs.declared.order.Order.{Order}
use Rattle.tapes.specs.declared.order.Order.TheVariants as order
use Rattle.tapes.specs.declared.tape.Tape.TheVariants.{Scheme}
use Rattle.tapes.specs.Orders.{Case, case_of}
use Rattle.tapes.specs.Readers.{row_on}
use Rattle.tapes.specs.Table.{row}
use Rattle.tapes.specs.Values.{value_read}
use Rattle.tapes.proofs.Languages.{Language}
use Rattle.tapes.proofs.Values.{from_byte, to_byte}
use Rattle.scheme_tape.specs.Drafts.{Draft, scheme_grammar}
use Rattle.scheme_tape.specs.Instructions.{Instruction, begins, tests, steps, ends, instruction_case}
use Rattle.scheme_tape.specs.Said.{said}

-- what an order with one, two or three operands says
abbrev one : (ℕ → Instruction) → List ℕ → Option Instruction
one f [] = None
one f (a ∷ rest) = Some (f a)

abbrev two : (ℕ → ℕ → Instruction) → List ℕ → Option Instruction
two f [] = None
two f (a ∷ rest) = one (f a) rest

abbrev three : (ℕ → ℕ → ℕ → Instruction) → List ℕ → Option Instruction
three f [] = None
three f (a ∷ rest) = two (f a) rest

abbrev read_back : Case → Option Instruction
read_back order =
    let is = eqb order.number in
    let operands = order.values in
    cond (is 0x10) (two begins operands)
    (cond (is 0x1F) (Some ends)
    (cond (is 0x20) (three (λ a b c. tests (Holds a b c)) operands)
    (cond (is 0x21) (three (λ a b c. tests (Is a b (value_read c))) operands)
    (cond (is 0x22) (three (λ a b c. tests (IsNot a b (value_read c))) operands)
    (cond (is 0x23) (three (λ a b c. tests (Covers a b c)) operands)
    (cond (is 0x30) (three (λ a b c. steps (Enter a b c)) operands)
    (cond (is 0x31) (three (λ a b c. steps (Delete a b c)) operands)
    (cond (is 0x32) (three (λ a b c. steps (Set a b c)) operands)
    (cond (is 0x33) (one (λ a. steps (Create a)) operands)
    (cond (is 0x34) (one (λ a. steps (Destroy a)) operands) None))))))))))

pub back : (i : Instruction) → read_back (instruction_case i) ≡ Some i
back (begins p q) = refl
back (tests (Holds r i j)) = refl
back (tests (Is i k v)) = ap (λ w. Some (tests (Is i k w))) (from_byte v)
back (tests (IsNot i k v)) = ap (λ w. Some (tests (IsNot i k w))) (from_byte v)
back (tests (Covers i k j)) = refl
back (steps (Enter r i j)) = refl
back (steps (Delete r i j)) = refl
back (steps (Set i k v)) = refl
back (steps (Create i)) = refl
back (steps (Destroy i)) = refl
back ends = refl

pub listed : (i : Instruction) → row_on (instruction_case i).number Scheme ≡ Some (row (instruction_case i).number (length (instruction_case i).values) Scheme)
listed (begins p q) = refl
listed (tests (Holds r i j)) = refl
listed (tests (Is i k v)) = refl
listed (tests (IsNot i k v)) = refl
listed (tests (Covers i k j)) = refl
listed (steps (Enter r i j)) = refl
listed (steps (Delete r i j)) = refl
listed (steps (Set i k v)) = refl
listed (steps (Create i)) = refl
listed (steps (Destroy i)) = refl
listed ends = refl

pub says : (o : Order) → is_some (row_on (case_of o).number Scheme) ≡ true → (i : Instruction) × ((said o ≡ Some i) × (instruction_case i ≡ case_of o))
says (order.Begin x) h = (_, (refl, refl))
says (order.Holds x) h = (_, (refl, refl))
says (order.Is x) h = (_, (refl, ap (λ v. record { number = 0x21; values = slice_index x.now 0 ∷ slice_index x.now 1 ∷ v ∷ [] }) (to_byte (slice_index x.now 2))))
says (order.IsNot x) h = (_, (refl, ap (λ v. record { number = 0x22; values = slice_index x.now 0 ∷ slice_index x.now 1 ∷ v ∷ [] }) (to_byte (slice_index x.now 2))))
says (order.Covers x) h = (_, (refl, refl))
says (order.Enter x) h = (_, (refl, refl))
says (order.Delete x) h = (_, (refl, refl))
says (order.Set x) h = (_, (refl, refl))
says (order.Create x) h = (_, (refl, refl))
says (order.Destroy x) h = (_, (refl, refl))
says order.End h = (_, (refl, refl))
says (order.Card x) h = cc
says (order.Thing x) h = cc
says (order.Right x) h = cc
says (order.Stamp x) h = cc
says (order.Allow x) h = cc
says (order.Ban x) h = cc

-- the scheme tape's language
abbrev pub scheme_language : Counts → Language Instruction Draft
scheme_language c =
    record {
      tape = Scheme;
      grammar = scheme_grammar c;
      said = said;
      written = instruction_case;
      spelt_so = λ i. refl;
      listed = listed;
      read_back = read_back;
      back = back;
      says = says;
    }
