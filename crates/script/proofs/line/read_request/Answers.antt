use Rattle.std.proofs.Common.{Global, vec_items}
use Rattle.script.specs.declared.keyword.Keyword.{Keyword}
use Rattle.script.specs.Calls.{Asks, asks_request}
use Rattle.script.specs.Series.{next}
use Rattle.script.proofs.Leading.{first_at, no_first, parted, following}
use Rattle.script.proofs.Saying.{asked}
use Rattle.script.proofs.Refusing.{refused, unreadable}
use Rattle.script.proofs.line.read_request.Goals as goal

pub returns-in_err-command : goal.returns-in_err-command
returns-in_err-command c =
    unreadable _ _ _ c.from_residual.result _ _ c.from_residual.ensures.1 c.in_err-command.ensures.value c.in_err-command.ensures.ok_part
    (λ call (a : Asks Keyword.Request c.args.rest.now call).
    let x = asked a in
    let p = parted x.2 in
    no_first c.in_err-command.ensures.ok_part c.first_number.ensures x.0 p.0 p.1)

pub returns-in_err-names : goal.returns-in_err-names
returns-in_err-names c =
    let leads = first_at c.in_ok-command.ensures.ok_part c.first_number.ensures in
    refused _ _ _ (vec_items {Z = Global}) c.from_residual-in_err-names.result _ c.from_residual-in_err-names.ensures.1 c.in_err-names.ensures
    (λ call (a : Asks Keyword.Request c.args.rest.now call). let x = asked a in (x.1, (following leads x.2).1))
    (λ wants. record { command = c.in_ok-command.command; more = c.in_ok-command.rest.now; leads = leads; starts = wants })

pub returns : goal.returns
returns c = asks_request (next (first_at c.in_ok-command.ensures.ok_part c.first_number.ensures) c.in_ok-names.ensures)
