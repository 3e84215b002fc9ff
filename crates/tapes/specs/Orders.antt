-- An order, case by case: the number of the case is its byte on the tape, its values are its operands.
use Rattle.std.specs.Prelude.{ℕ, zero, suc, cond, List, [], ◌∷◌, length, take, Some, None, Option, nat_le, slice_index}
use Rattle.tapes.specs.declared.order.Order.{Order}
use Rattle.tapes.specs.declared.order.Order.TheVariants.{Begin, End, Holds, Is, IsNot, Covers, Enter, Delete, Set, Create, Destroy, Card, Thing, Right, Stamp, Allow, Ban}
use Rattle.tapes.specs.declared.table.OrderRow.{OrderRow}
use Rattle.tapes.specs.Table.{row_of}

pub record Case : Type 0 where
  pub number : ℕ
  pub values : List ℕ

-- an order on its tape: its byte, then its operands
abbrev pub spelt : Case → List ℕ
spelt order = order.number ∷ order.values

-- n operands, read from place k on
abbrev pub operands_from : (k n : ℕ) → List ℕ → List ℕ
operands_from k zero xs = []
operands_from k (suc n) xs = slice_index xs k ∷ operands_from (suc k) n xs

abbrev pub case : (byte n : ℕ) → List ℕ → Case
case byte n operands = record { number = byte; values = operands_from 0 n operands }

abbrev pub case_of : Order → Case
case_of (Begin x) = case 0x10 2 x.now
case_of End = case 0x1F 0 []
case_of (Holds x) = case 0x20 3 x.now
case_of (Is x) = case 0x21 3 x.now
case_of (IsNot x) = case 0x22 3 x.now
case_of (Covers x) = case 0x23 3 x.now
case_of (Enter x) = case 0x30 3 x.now
case_of (Delete x) = case 0x31 3 x.now
case_of (Set x) = case 0x32 3 x.now
case_of (Create x) = case 0x33 1 x.now
case_of (Destroy x) = case 0x34 1 x.now
case_of (Card x) = case 0x40 5 x.now
case_of (Thing x) = case 0x41 5 x.now
case_of (Right x) = case 0x42 3 x.now
case_of (Stamp x) = case 0x50 5 x.now
case_of (Allow x) = case 0x51 4 x.now
case_of (Ban x) = case 0x60 5 x.now

-- an order of this row with the first operands of these, where there are enough
abbrev pub decoded_by : (byte : ℕ) → List ℕ → Option OrderRow → Option Case
decoded_by byte operands None = None
decoded_by byte operands (Some row) = cond (nat_le row.operands (length operands)) (Some (record { number = byte; values = take row.operands operands })) None

abbrev pub decoded : (byte : ℕ) → List ℕ → Option Case
decoded byte operands = decoded_by byte operands (row_of byte)
