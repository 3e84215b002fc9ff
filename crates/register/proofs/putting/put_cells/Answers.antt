use Rattle.std.proofs.Common.{ℕ, cond, Some, None, nat_lt, ap, ◌∙◌, Option}
use Rattle.model.specs.Answers.{refusal}
use Rattle.model.specs.Faults.{reason_number}
use Rattle.stores.specs.Matrices.{Matrix, count}
use Rattle.register.proofs.Limits.{put_fits, put_refused, put_leaves}
use Rattle.register.proofs.putting.put_cells.Goals as goal

-- the rule on the limit, of what a change of the cells makes of them
abbrev over : (limit : ℕ) → Matrix → (Matrix → Matrix) → Option ℕ
over limit old f = cond (nat_lt limit (count (f old))) (Some 16) None

pub returns-in-Ok-clause-answer : goal.returns-in-Ok-clause-answer
returns-in-Ok-clause-answer g c =
    put_fits _ (c.in-Ok.ensures.answer ∙ ap (over (g.C.CellStore.most c.args.store.now) (g.C.CellStore.cells c.args.store.now)) c.change_by.ensures)

pub returns-in-Ok-clause-after : goal.returns-in-Ok-clause-after
returns-in-Ok-clause-after g c =
    let old = g.C.CellStore.cells c.args.store.now in
    put_leaves _ None _ old _
    (c.in-Ok.ensures.answer ∙ ap (over (g.C.CellStore.most c.args.store.now) old) c.change_by.ensures)
    (c.in-Ok.ensures.after ∙ ap (λ (f : Matrix → Matrix). f old) c.change_by.ensures)

pub returns-in-Err-clause-answer : goal.returns-in-Err-clause-answer
returns-in-Err-clause-answer g c =
    ap refusal c.refusal.ensures
    ∙ put_refused _ (reason_number c.in-Err.reason) (c.in-Err.ensures.answer ∙ ap (over (g.C.CellStore.most c.args.store.now) (g.C.CellStore.cells c.args.store.now)) c.change_by.ensures)

pub returns-in-Err-clause-after : goal.returns-in-Err-clause-after
returns-in-Err-clause-after g c =
    let old = g.C.CellStore.cells c.args.store.now in
    put_leaves _ (Some (reason_number c.in-Err.reason)) _ old _
    (c.in-Err.ensures.answer ∙ ap (over (g.C.CellStore.most c.args.store.now) old) c.change_by.ensures)
    c.in-Err.ensures.after
