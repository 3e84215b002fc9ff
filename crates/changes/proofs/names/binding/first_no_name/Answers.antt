use Rattle.std.proofs.Common.{rules, ◌≡◌, not, get_or, true, sym, arith}
use Rattle.std.proofs.lemmas.Grind.{common_steps}
use Rattle.stores.specs.Matrices.{is_name}
use Rattle.protection.specs.Commands.{name_at}
use Rattle.protection.proofs.Requests.{found, missed}
use Rattle.changes.proofs.names.binding.first_no_name.Goals as goal

pub returns-then-not-is_name : goal.returns-then-not-is_name
returns-then-not-is_name c =
    let read : name_at c.args.names.now c.loop-i.i ≡ get_or c.args.names.now c.loop-i.i 0 = grind (arith, common_steps) in
    let here : not (is_name (name_at c.args.names.now c.loop-i.i)) ≡ true = rw read (search rules) in
    sym (found (λ i. not (is_name (name_at c.args.names.now i))) c.args.params c.loop-i.i (omega arith) c.loop-i.invariant here)

pub returns : goal.returns
returns c = sym (missed _ _ c.loop-i.i (omega arith) c.loop-i.invariant)
