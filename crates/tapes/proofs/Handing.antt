-- How an order is found at the front of some bytes, and handed on.
use Rattle.std.proofs.Common.{◌≡◌, ℕ, ◌+◌, ◌-◌, ◌≤◌, true, cond, leb, List, [], ◌∷◌, ◌++◌, length, take, drop, is_some, Some, None, Option, sym, refl, ap, ◌∙◌, subst, one-add, arith, take-append-drop, length-append, length-drop}
use Rattle.std.proofs.lemmas.List.{length-take-le, take-take}
use Rattle.std.proofs.lemmas.Bool.{le-leb, leb-true}
use Rattle.std.proofs.lemmas.Option.{cond_some}
use Rattle.std.specs.Option.{option_map}
use Rattle.model.specs.Answers.{accepted}
use Rattle.tapes.specs.declared.table.OrderRow.{OrderRow}
use Rattle.tapes.specs.declared.tape.Tape.{Tape}
use Rattle.tapes.specs.Orders.{Case, spelt, decoded, decoded_by}
use Rattle.tapes.specs.Readers.{At, only_on, row_on, first_order, with_size, handed_on, size_of}
use Rattle.tapes.specs.Table.{row_of}
use Rattle.tapes.specs.Tapes.{same_tape}

-- a row that is one of this tape is the byte's row
only_on_some : (tape : Tape) (row : OrderRow) (o : Option OrderRow) → Some row ≡ only_on tape o → Some row ≡ o
only_on_some tape row None h = h
only_on_some tape row (Some r) h = ap (λ x. Some x) (sym (cond_some (same_tape r.tape tape) r row (sym h)).1)

order_of : (byte : ℕ) → List ℕ → Case
order_of byte operands = record { number = byte; values = operands }

module _ (tape : Tape) (byte : ℕ) (rest : List ℕ) (row : OrderRow) (on : Some row ≡ row_on byte tape) (enough : row.operands ≤ length rest) where
  long : length (take row.operands rest) ≡ row.operands
  long = length-take-le row.operands rest enough

  whole : first_order tape (byte ∷ rest) ≡ Some (order_of byte (take row.operands rest))
  unfolding order_of
  whole =
      ap (decoded_by byte rest) (sym on)
      ∙ ap (λ b. cond b (Some (record { number = byte; values = take row.operands rest })) None) (le-leb _ _ enough)

  cut : decoded byte (take row.operands rest) ≡ Some (order_of byte (take row.operands rest))
  unfolding order_of
  cut =
      let fits : row.operands ≤ length (take row.operands rest) = omega (arith, long) in
      ap (decoded_by byte (take row.operands rest)) (sym (only_on_some tape row (row_of byte) on))
      ∙ ap (λ b. cond b (Some (record { number = byte; values = take row.operands (take row.operands rest) })) None) (le-leb _ _ fits)
      ∙ ap (λ l. Some (record { number = byte; values = l })) (take-take row.operands row.operands rest (omega arith))

  pub found : (bytes operands : List ℕ) (order : Case) → bytes ≡ byte ∷ rest → operands ≡ take row.operands rest → Some order ≡ decoded byte operands → Some (order, 1 + row.operands) ≡ option_map with_size (first_order tape bytes)
  unfolding order_of
  found bytes operands order is same came =
      let first : first_order tape bytes ≡ Some (order_of byte (take row.operands rest)) = ap (first_order tape) is ∙ whole in
      let here : Some order ≡ Some (order_of byte (take row.operands rest)) = came ∙ ap (decoded byte) same ∙ cut in
      let equal : order ≡ order_of byte (take row.operands rest) = cc in
      ap (λ o. Some (o, 1 + row.operands)) equal
      ∙ ap (λ k. Some (order_of byte (take row.operands rest), 1 + k)) (sym long)
      ∙ sym (ap (option_map with_size) first)

-- what `handed_on` says, from the order that was found with its size
pub hands : (tape : Tape) (offset : ℕ) (o : Option Case) (order : Case) (size : ℕ) → Some (order, size) ≡ option_map with_size o → accepted (record { order = order; offset = offset; size = size }) ≡ handed_on tape offset o
hands tape offset None order size h = cc
hands tape offset (Some k) order size h =
    let same : (order, size) ≡ with_size k = cc in
    ap (λ p. accepted (record { order = p.0; offset = offset; size = p.1 })) same

pub hands_none : (tape : Tape) (offset : ℕ) (o : Option Case) → None ≡ option_map with_size o → handed_on tape offset None ≡ handed_on tape offset o
hands_none tape offset None h = refl
hands_none tape offset (Some k) h = cc

-- an order that was found: its row, and its operands
record Cut (byte : ℕ) (rest : List ℕ) (k : Case) (o : Option OrderRow) : Type 0 where
  row : OrderRow
  listed : o ≡ Some row
  enough : row.operands ≤ length rest
  is : record { number = byte; values = take row.operands rest } ≡ k

cut_from : (byte : ℕ) (rest : List ℕ) (k : Case) (o : Option OrderRow) → decoded_by byte rest o ≡ Some k → Cut byte rest k o
cut_from byte rest k None h = cc
cut_from byte rest k (Some row) h =
    let p = cond_some (leb row.operands (length rest)) (record { number = byte; values = take row.operands rest }) k h in
    record { row = row; listed = refl; enough = leb-true _ _ p.0; is = p.1 }

-- it stands at the front of the bytes
pub order_splits : (tape : Tape) (bytes : List ℕ) (k : Case) → first_order tape bytes ≡ Some k → bytes ≡ spelt k ++ drop (size_of k) bytes
order_splits tape [] k h = cc
order_splits tape (byte ∷ rest) k h =
    let c = cut_from byte rest k (row_on byte tape) h in
    let operands = take c.row.operands rest in
    let past : drop (1 + length operands) (byte ∷ rest) ≡ drop c.row.operands rest = rw (one-add, length-take-le c.row.operands rest c.enough) in
    subst (λ (o : Case). byte ∷ rest ≡ spelt o ++ drop (size_of o) (byte ∷ rest)) c.is
    (ap (λ l. byte ∷ l) (sym (take-append-drop c.row.operands rest)) ∙ ap (λ l. byte ∷ (operands ++ l)) (sym past))

-- and its byte is one of this tape
pub order_on : (tape : Tape) (bytes : List ℕ) (k : Case) → first_order tape bytes ≡ Some k → is_some (row_on k.number tape) ≡ true
order_on tape [] k h = cc
order_on tape (byte ∷ rest) k h =
    let c = cut_from byte rest k (row_on byte tape) h in
    ap (λ (o : Case). is_some (row_on o.number tape)) (sym c.is) ∙ ap is_some c.listed

-- an order that is handed on takes at least one byte, and lies on its tape
pub record Lies (at size end : ℕ) : Type 0 where
  pub some : 1 ≤ size
  pub inside : at + size ≤ end

module _ (tape : Tape) (bytes : List ℕ) (at : ℕ) (inside : at ≤ length bytes) (p : At) where
  lies_by : (o : Option Case) → first_order tape (drop at bytes) ≡ o → accepted p ≡ handed_on tape at o → Lies at p.size (length bytes)
  lies_by None is h = cc
  lies_by (Some k) is h =
      let size : p.size ≡ size_of k = cc in
      let split = order_splits tape (drop at bytes) k is in
      let long : size_of k ≤ length bytes - at = omega (arith, ap length split, length-append (spelt k) (drop (size_of k) (drop at bytes)), length-drop at bytes) in
      record { some = omega arith; inside = omega arith }

  pub lies : accepted p ≡ handed_on tape at (first_order tape (drop at bytes)) → Lies at p.size (length bytes)
  lies h = lies_by (first_order tape (drop at bytes)) refl h
