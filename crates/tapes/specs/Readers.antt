-- Reading a tape order by order: which order stands at an offset, by the table of orders.
use Rattle.std.specs.Prelude.{ℕ, ◌+◌, cond, List, [], ◌∷◌, length, Some, None, Option, nat_le}
use Rattle.model.specs.Answers.{Answer, accepted, refused}
use Rattle.model.specs.Faults.{layer_number}
use Rattle.tapes.specs.declared.order.Order.{Order}
use Rattle.tapes.specs.declared.reader.Placed.{Placed}
use Rattle.tapes.specs.declared.table.OrderRow.{OrderRow}
use Rattle.tapes.specs.declared.tape.Tape.{Tape}
use Rattle.tapes.specs.Orders.{Case, case_of, decoded_by}
use Rattle.tapes.specs.Table.{row_of}
use Rattle.tapes.specs.Tapes.{layer_of, same_tape}

abbrev pub fault_of : {X : Type 0} → Tape → (number place : ℕ) → Answer X
fault_of tape number place = refused (layer_number (layer_of tape)) number place

-- a tape of more than 65,535 bytes is refused by 1
abbrev pub measured : Tape → List ℕ → Answer ℕ
measured tape bytes = cond (nat_le (length bytes) 65535) (accepted (length bytes)) (fault_of tape 1 65535)

-- the row, where it is one of this tape
abbrev pub only_on : Tape → Option OrderRow → Option OrderRow
only_on tape None = None
only_on tape (Some row) = cond (same_tape row.tape tape) (Some row) None

abbrev pub row_on : (byte : ℕ) → Tape → Option OrderRow
row_on byte tape = only_on tape (row_of byte)

-- the order of this tape that the bytes begin with, if they begin with one
abbrev pub first_order : Tape → List ℕ → Option Case
first_order tape [] = None
first_order tape (byte ∷ rest) = decoded_by byte rest (row_on byte tape)

-- how many bytes an order takes on its tape
abbrev pub size_of : Case → ℕ
size_of order = 1 + length order.values

abbrev pub sized : Order × ℕ → Case × ℕ
sized p = (case_of p.0, p.1)

abbrev pub with_size : Case → Case × ℕ
with_size order = (order, size_of order)

-- an order with its offset and how many bytes it takes
pub record At : Type 0 where
  pub order : Case
  pub offset : ℕ
  pub size : ℕ

abbrev pub placed : Placed → At
placed p = record { order = case_of p.order; offset = p.offset; size = p.size }

-- the order that stands at the offset, or 2 where there is none
abbrev pub handed_on : Tape → (offset : ℕ) → Option Case → Answer At
handed_on tape offset None = fault_of tape 2 offset
handed_on tape offset (Some order) = accepted (record { order = order; offset = offset; size = size_of order })
