use Rattle.std.proofs.Common.{ℕ, Global, Vec, vec_items}
use Rattle.script.specs.declared.keyword.Keyword.{Keyword}
use Rattle.script.specs.Calls.{Asks, asks_check}
use Rattle.script.proofs.Saying.{asked}
use Rattle.script.proofs.Refusing.{refused}
use Rattle.script.proofs.line.read_check.Goals as goal

pub returns-in_err-certificate : goal.returns-in_err-certificate
returns-in_err-certificate c =
    refused _ _ _ (λ (p : Vec ℕ Global × Vec ℕ Global). (vec_items p.0, vec_items p.1)) c.from_residual.result _ c.from_residual.ensures.1 c.in_err-certificate.ensures
    (λ call (a : Asks Keyword.Check c.args.rest.now call). let x = asked a in ((x.0, x.1), x.2))
    (λ wants. wants)

pub returns : goal.returns
returns c = asks_check c.in_ok-certificate.ensures
