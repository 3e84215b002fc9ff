-- Reading the orders of a tape one after the other.
use Rattle.std.specs.Prelude.{◌≡◌, ℕ, ◌+◌, cond, List, length, drop, Some, None, Option, Result, nat_lt}
use Rattle.std.specs.Option.{option_map}
use Rattle.model.specs.declared.fault.Fault.{Fault}
use Rattle.model.specs.Answers.{Answer, accepted, refused, answer}
use Rattle.tapes.specs.declared.orders.Orders.{Orders}
use Rattle.tapes.specs.declared.reader.Placed.{Placed}
use Rattle.tapes.specs.declared.tape.Tape.{Tape}
use Rattle.tapes.specs.Readers.{At, placed, first_order, handed_on}

-- what comes next of a tape that has been read up to this place: nothing at its end, else what stands there
abbrev pub next_item : Tape → (bytes : List ℕ) → (at : ℕ) → Option (Answer At)
next_item tape bytes at = cond (nat_lt at (length bytes)) (Some (handed_on tape at (first_order tape (drop at bytes)))) None

-- up to where it has been read then: past the order, and after a refusal to the end
abbrev pub read_to : (end at : ℕ) → Option (Answer At) → ℕ
read_to end at None = at
read_to end at (Some (accepted order)) = at + order.size
read_to end at (Some (refused layer number place)) = end

-- an iterator over the orders of these bytes, which have been read up to this place
pub record Reads (on : Tape) (whole : List ℕ) (place : ℕ) (s : Orders) : Type 0 where
  pub tape : s.tape ≡ on
  pub bytes : s.bytes.now ≡ whole
  pub at : s.at ≡ place

-- one step of such an iterator: what it gives, and up to where it has read then
pub record Steps (s : Orders) (r : Option (Result Placed Fault)) (t : Orders) : Type 0 where
  pub item : option_map (answer placed) r ≡ next_item s.tape s.bytes.now s.at
  pub on : Reads s.tape s.bytes.now (read_to (length s.bytes.now) s.at (next_item s.tape s.bytes.now s.at)) t
