-- What a tape brings to its reader: its grammar, and that each order of the tape is one of the grammar's.
use Rattle.std.proofs.Common.{◌≡◌, ℕ, true, cond, List, [], ◌++◌, length, take, is_some, Some, None, Option, sym, ap, ◌∙◌, arith}
use Rattle.std.proofs.lemmas.Bool.{le-leb}
use Rattle.std.proofs.lemmas.List.{append_cancel_left, length-append}
use Rattle.std.proofs.Math.Seq.{take-append_seam}
use Rattle.tapes.specs.declared.order.Order.{Order}
use Rattle.tapes.specs.declared.tape.Tape.{Tape}
use Rattle.tapes.specs.Grammars.{Grammar}
use Rattle.tapes.specs.Orders.{Case, spelt, case_of, decoded_by}
use Rattle.tapes.specs.Readers.{first_order, row_on}
use Rattle.tapes.specs.Table.{row}

pub record Language (I D : Type 0) : Type 0 where
  pub tape : Tape
  pub grammar : Grammar I D
  -- what an order of any tape says on this one
  pub said : Order → Option I
  -- the order that is written for it, with its row in the table of orders
  pub written : I → Case
  pub spelt_so : (i : I) → grammar.code i ≡ spelt (written i)
  pub listed : (i : I) → row_on (written i).number tape ≡ Some (row (written i).number (length (written i).values) tape)
  -- what it says can be read back from it
  pub read_back : Case → Option I
  pub back : (i : I) → read_back (written i) ≡ Some i
  -- each order of this tape says something, which is written so
  pub says : (o : Order) → is_some (row_on (case_of o).number tape) ≡ true → (i : I) × ((said o ≡ Some i) × (written i ≡ case_of o))

module _ {I D : Type 0} (l : Language I D) where
  -- the table of orders finds what is written at the front of some bytes
  pub finds : (i : I) (after : List ℕ) → first_order l.tape (l.grammar.code i ++ after) ≡ Some (l.written i)
  finds i after =
      let order = l.written i in
      let bytes = order.values ++ after in
      ap (λ b. first_order l.tape (b ++ after)) (l.spelt_so i)
      ∙ ap (decoded_by order.number bytes) (l.listed i)
      ∙ ap (λ b. cond b (Some (record { number = order.number; values = take (length order.values) bytes })) None) (le-leb _ _ (omega (arith, length-append order.values after)))
      ∙ ap (λ v. Some (record { number = order.number; values = v })) (take-append_seam order.values after)

  pub same_order : (i j : I) (r s : List ℕ) → l.grammar.code i ++ r ≡ l.grammar.code j ++ s → (i ≡ j) × (r ≡ s)
  same_order i j r s h =
      let found : Some (l.written i) ≡ Some (l.written j) = sym (finds i r) ∙ ap (first_order l.tape) h ∙ finds j s in
      let case : l.written i ≡ l.written j = cc in
      let read : Some i ≡ Some j = sym (l.back i) ∙ ap l.read_back case ∙ l.back j in
      let same : i ≡ j = cc in
      (same, append_cancel_left (l.grammar.code i) r s (h ∙ ap (λ k. l.grammar.code k ++ s) (sym same)))

  pub never_empty : (i : I) (r : List ℕ) → [] ≡ l.grammar.code i ++ r → ⊥
  never_empty i r h =
      let found : None ≡ Some (l.written i) = ap (first_order l.tape) h ∙ finds i r in
      cc
