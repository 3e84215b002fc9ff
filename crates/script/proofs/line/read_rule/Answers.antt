use Rattle.script.specs.declared.keyword.Keyword.{Keyword}
use Rattle.script.specs.Calls.{Asks, asks_rule}
use Rattle.script.proofs.Finding.{found_at}
use Rattle.script.proofs.Saying.{asked}
use Rattle.script.proofs.Refusing.{unfound}
use Rattle.script.proofs.line.read_rule.Goals as goal

pub returns-in_err-row : goal.returns-in_err-row
returns-in_err-row c =
    unfound _ _ _ c.from_residual.result _ _ _ c.from_residual.ensures.1 c.in_err-row.ensures.value c.in_err-row.ensures.ok_part c.three_numbers.ensures
    (λ call (a : Asks Keyword.Rule c.args.rest.now call). let x = asked a in ((x.0, x.1, x.2), x.3))

pub returns : goal.returns
returns c = asks_rule (found_at _ c.in_ok-row.ensures.ok_part c.three_numbers.ensures)
