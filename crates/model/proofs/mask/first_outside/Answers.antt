use Rattle.std.proofs.Common.{◌∙◌, sym, arith}
use Rattle.std.proofs.lemmas.Bool.{and_parts, not-true}
use Rattle.model.proofs.Containing.{within_none, within_more, within_all, none_outside}
use Rattle.model.proofs.mask.first_outside.Goals as goal

pub loop-right-init : goal.loop-right-init
loop-right-init c = within_none c.args.m c.args.n

pub loop-right-preserved : goal.loop-right-preserved
loop-right-preserved c = within_more c.loop-right.right c.args.m c.args.n c.loop-right.invariant (sym c.lacks.ensures ∙ c.if-lacks.false)

pub returns-then-lacks : goal.returns-then-lacks
returns-then-lacks c =
    let parts = and_parts _ _ (sym c.lacks.ensures ∙ c.if-lacks.true) in
    ((parts.0, not-true _ parts.1), none_outside c.loop-right.right c.args.m c.args.n c.loop-right.invariant)

pub returns : goal.returns
returns c = within_all c.loop-right.right c.args.m c.args.n (omega arith) (omega arith) c.loop-right.invariant
