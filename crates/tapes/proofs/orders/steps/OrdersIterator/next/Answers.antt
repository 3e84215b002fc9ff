use Rattle.std.proofs.Common.{ℕ, ◌<◌, ◌≤◌, length, arith}
use Rattle.tapes.specs.Readers.{placed}
use Rattle.tapes.proofs.Handing.{lies}
use Rattle.tapes.proofs.orders.steps.OrdersIterator.next.Goals as goal
use Rattle.tapes.proofs.orders.steps.OrdersIterator.next.Goals.{in-Ok, in-Err, Joined-placed}

pub overflow_add-self : goal.overflow_add-self
overflow_add-self c =
    let s = c.args.self.now in
    let here = lies s.tape s.bytes.now s.at s.inside (placed c.in-Ok.placed) c.in-Ok.ensures in
    omega (arith, here.inside, s.short)

-- past an order, and past a refusal too, the iterator is further on and still on the tape
record Further (at on end : ℕ) : Type 0 where
  further : at < on
  inside : on ≤ end

further : (c : Joined-placed) → Further c.args.self.now.at c.match-placed.self (length c.args.self.now.bytes.now)
further c =
    let s = c.args.self.now in
    elim c.match-placed.branch [
      | in-Ok w ↦
          let here = lies s.tape s.bytes.now s.at s.inside (placed w.in-Ok.placed) w.in-Ok.ensures in
          record { further = omega (arith, w.self-is, here.some); inside = omega (arith, w.self-is, here.inside) }
      | in-Err w ↦
          record { further = omega (arith, w.self-is, w.end-self.ensures, s.inside); inside = omega (arith, w.self-is, w.end-self.ensures) }
    ]

pub invariant_of-self-clause-inside : goal.invariant_of-self-clause-inside
invariant_of-self-clause-inside c = (further c).inside

pub returns-clause-goes : goal.returns-clause-goes
returns-clause-goes c =
    let on = further (goal.at.returns-clause-goes c).Joined-placed in
    record { on = λ _. (tt, tt, omega (arith, on.further, on.inside)); keeps = tt; rests = λ _. tt }
