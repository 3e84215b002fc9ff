-- What a step of an iterator over the orders of a tape tells of the tape.
use Rattle.std.proofs.Common.{◌≡◌, ℕ, ◌+◌, ◌<◌, ◌≤◌, Bool, true, false, cond, ltb, List, length, drop, Some, None, Ok, Result, refl, sym, ap, ◌∙◌, subst, arith}
use Rattle.std.proofs.lemmas.Bool.{ltb-true, ltb-false}
use Rattle.std.proofs.lemmas.Option.{cond_some}
use Rattle.model.specs.declared.fault.Fault.{Fault}
use Rattle.model.specs.Answers.{Answer, answer}
use Rattle.tapes.specs.declared.orders.Orders.{Orders}
use Rattle.tapes.specs.declared.reader.Placed.{Placed}
use Rattle.tapes.specs.declared.tape.Tape.{Tape}
use Rattle.tapes.specs.Readers.{At, placed, first_order, handed_on}
use Rattle.tapes.specs.Steps.{next_item, read_to, Reads, Steps}

-- the item came from inside the tape
pub record Stood (tape : Tape) (bytes : List ℕ) (at : ℕ) (item : Answer At) : Type 0 where
  pub inside : at < length bytes
  pub came : item ≡ handed_on tape at (first_order tape (drop at bytes))

stood_by : (tape : Tape) (bytes : List ℕ) (at : ℕ) (item : Answer At) → Some item ≡ next_item tape bytes at → Stood tape bytes at item
stood_by tape bytes at item h =
    let p = cond_some (ltb at (length bytes)) _ _ (sym h) in
    record { inside = ltb-true _ _ p.0; came = sym p.1 }

ended_by : (at n : ℕ) (b : Bool) (item : Answer At) → ltb at n ≡ b → None ≡ cond b (Some item) None → n ≤ at
ended_by at n true item is h = cc
ended_by at n false item is h = ltb-false _ _ is

module _ (tape : Tape) (bytes : List ℕ) (s t : Orders) (reads : Reads tape bytes s.at s) where
  pub stood : (r : Result Placed Fault) → Steps s (Some r) t → Stood tape bytes s.at (answer placed r)
  stood r step =
      subst (λ b. Stood tape b s.at (answer placed r)) reads.bytes
      (subst (λ k. Stood k s.bytes.now s.at (answer placed r)) reads.tape (stood_by s.tape s.bytes.now s.at (answer placed r) step.item))

  -- the order is behind
  pub reads_on : (r : Result Placed Fault) (p : Placed) → r ≡ Ok p → Steps s (Some r) t → Reads tape bytes (s.at + p.size) t
  reads_on r p is step = record {
    tape = step.on.tape ∙ reads.tape;
    bytes = step.on.bytes ∙ reads.bytes;
    at = step.on.at ∙ ap (read_to (length s.bytes.now) s.at) (sym step.item ∙ ap (λ x. Some (answer placed x)) is);
  }

  pub at_end : Steps s None t → s.at ≡ length bytes
  at_end step =
      let all : length s.bytes.now ≤ s.at = ended_by s.at (length s.bytes.now) _ (handed_on s.tape s.at (first_order s.tape (drop s.at s.bytes.now))) refl step.item in
      omega (arith, all, s.inside, ap length reads.bytes)
