use Rattle.std.proofs.Common.{◌≡◌, ◌||◌, ltb, slice_index, arith, ap, ◌∙◌}
use Rattle.std.proofs.lemmas.Grind.{common_steps}
use Rattle.model.specs.Masks.{with_right}
use Rattle.stores.specs.Matrices.{some, count, has_room}
use Rattle.opening.proofs.Rooms.{right_room}
use Rattle.opening.proofs.items.add_right.Goals as goal

pub returns-clause-answer : goal.returns-clause-answer
returns-clause-answer g c = λ counts.
    let f = g.C.CellStore.cells c.args.store.now in
    let limit = g.C.CellStore.most c.args.store.now in
    let r = slice_index c.args.operands.now 0 in
    let s = slice_index c.args.operands.now 1 in
    let o = slice_index c.args.operands.now 2 in
    let mask = c.with_right-mask.ensures.value ∙ ap (λ m. with_right m r) c.read.ensures in
    let room : has_room limit f s o c.with_right-mask.result ≡ (some (f s o) || ltb (count f) limit) = right_room limit f s o r c.with_right-mask.result (omega arith) mask in
    grind (arith, common_steps)
