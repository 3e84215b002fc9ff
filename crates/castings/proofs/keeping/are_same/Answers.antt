use Rattle.std.proofs.Common.{Some, sym, ap, ◌∙◌}
use Rattle.model.proofs.Stamps.{stamp_so}
use Rattle.castings.proofs.keeping.are_same.Goals as goal

pub returns-in-Some-Some : goal.returns-in-Some-Some
returns-in-Some-Some c same =
    c.in-Some-Some.is-0
    ∙ ap (λ s. Some s) (stamp_so c.in-Some-Some.old c.in-Some-Some.new (sym c.same.ensures ∙ same))
    ∙ sym c.in-Some-Some.is-1
