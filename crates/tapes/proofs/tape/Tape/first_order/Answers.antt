use Rattle.std.proofs.Common.{◌≡◌, ◌-◌, take, ap, ◌∙◌, arith}
use Rattle.tapes.specs.Orders.{case_of}
use Rattle.tapes.proofs.Handing.{found}
use Rattle.tapes.proofs.tape.Tape.first_order.Goals as goal

pub returns : goal.returns
returns c =
    let rest = c.in_ok-byte.rest.now in
    let row = c.in_ok-row.row in
    let cut = c.in_ok-operands.ensures.lookup.0 in
    let whole : c.from.result - 0 ≡ row.operands = omega arith in
    rw c.from-2.ensures
    (found c.args.self c.in_ok-byte.byte.now rest row c.in_ok-row.ensures (omega arith) c.args.bytes.now c.in_ok-operands.operands.now (case_of c.in_ok-order.order)
    c.in_ok-byte.ensures.cases.0 (cut.2 ∙ ap (λ n. take n rest) whole) c.in_ok-order.ensures)
