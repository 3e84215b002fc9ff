use Rattle.std.proofs.Common.{◌≡◌, drop, length, sym, ap, ◌∙◌, arith}
use Rattle.std.proofs.lemmas.Grind.{common_steps}
use Rattle.std.proofs.lemmas.List.{take_rest}
use Rattle.std.specs.List.{slice_range}
use Rattle.std.specs.Option.{option_map}
use Rattle.tapes.specs.Orders.{case_of}
use Rattle.tapes.specs.Readers.{first_order, sized, with_size}
use Rattle.tapes.proofs.Handing.{hands, hands_none}
use Rattle.tapes.proofs.tape.Tape.order_at.Goals as goal
use Rattle.tapes.proofs.tape.Tape.order_at.Goals.{In_ok-rest}

-- what was cut off is the rest of the tape from the offset on
rest_is : (c : In_ok-rest) → c.in_ok-rest.rest.now ≡ drop c.args.offset c.args.bytes.now
rest_is c =
    let cut = rw c.in_ok-rest.ensures.ok_part at c.get.ensures.lookup in
    cut.0.2 ∙ ap (λ n. slice_range c.args.bytes.now n (length c.args.bytes.now)) c.from-2.ensures ∙ take_rest c.args.bytes.now c.args.offset

pub returns-in_err-order : goal.returns-in_err-order
returns-in_err-order c =
    let found = ap (option_map sized) (sym c.in_err-order.ensures.ok_part) ∙ c.first_order.ensures ∙ ap (λ l. option_map with_size (first_order c.args.self l)) (rest_is (goal.at.returns-in_err-order c).In_ok-rest) in
    let none = hands_none c.args.self c.args.offset (first_order c.args.self (drop c.args.offset c.args.bytes.now)) found in
    grind (arith, common_steps)

pub returns : goal.returns
returns c =
    let found = ap (option_map sized) (sym c.in_ok-order.ensures.ok_part) ∙ c.first_order.ensures ∙ ap (λ l. option_map with_size (first_order c.args.self l)) (rest_is (goal.at.returns c).In_ok-rest) in
    hands c.args.self c.args.offset (first_order c.args.self (drop c.args.offset c.args.bytes.now)) (case_of c.in_ok-order.order) c.in_ok-order.size found
