use Rattle.std.proofs.Common.{rules, ◌≡◌, get_or, true, false, sym, arith}
use Rattle.std.proofs.lemmas.Grind.{common_steps}
use Rattle.protection.specs.Commands.{name_at}
use Rattle.changes.specs.Names.{repeats}
use Rattle.protection.proofs.Requests.{found, missed, clear_more}
use Rattle.changes.proofs.names.binding.first_repeated.Goals as goal

pub returns-then-is_among : goal.returns-then-is_among
returns-then-is_among c =
    let read : name_at c.args.names.now c.loop-i.i ≡ get_or c.args.names.now c.loop-i.i 0 = grind (arith, common_steps) in
    let here : repeats c.args.names.now c.loop-i.i ≡ true = rw read (search rules) in
    sym (found (repeats c.args.names.now) c.args.params c.loop-i.i (omega arith) c.loop-i.invariant here)

pub loop-i-preserved : goal.loop-i-preserved
loop-i-preserved c =
    let read : name_at c.args.names.now c.loop-i.i ≡ get_or c.args.names.now c.loop-i.i 0 = grind (arith, common_steps) in
    let here : repeats c.args.names.now c.loop-i.i ≡ false = rw read (search rules) in
    clear_more _ _ c.loop-i.invariant here

pub returns : goal.returns
returns c = sym (missed _ _ c.loop-i.i (omega arith) c.loop-i.invariant)
