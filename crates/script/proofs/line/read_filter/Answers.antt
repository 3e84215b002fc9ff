use Rattle.script.specs.declared.keyword.Keyword.{Keyword}
use Rattle.script.specs.Calls.{Asks, asks_filter}
use Rattle.script.proofs.Finding.{found_at}
use Rattle.script.proofs.Saying.{asked}
use Rattle.script.proofs.Refusing.{unfound}
use Rattle.script.proofs.line.read_filter.Goals as goal

pub returns-in_err-attribute : goal.returns-in_err-attribute
returns-in_err-attribute c =
    unfound _ _ _ c.from_residual.result _ _ _ c.from_residual.ensures.1 c.in_err-attribute.ensures.value c.in_err-attribute.ensures.ok_part c.filter_parts.ensures
    (λ call (a : Asks Keyword.Filter c.args.rest.now call). let x = asked a in ((x.0, x.1), x.2))

pub returns : goal.returns
returns c = asks_filter (found_at _ c.in_ok-attribute.ensures.ok_part c.filter_parts.ensures)
