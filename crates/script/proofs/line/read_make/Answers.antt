use Rattle.std.proofs.Common.{Global, vec_items, subst}
use Rattle.script.specs.declared.keyword.Keyword.{Keyword}
use Rattle.script.specs.Hex.{Spells}
use Rattle.script.specs.Calls.{Asks, asks_make}
use Rattle.script.proofs.Finding.{seen_at, none_seen}
use Rattle.script.proofs.Giving.{one_buffer}
use Rattle.script.proofs.Saying.{asked}
use Rattle.script.proofs.Refusing.{refused, unreadable}
use Rattle.script.proofs.line.read_make.Goals as goal

pub returns-in_err-size : goal.returns-in_err-size
returns-in_err-size c =
    unreadable _ _ _ c.from_residual.result _ _ c.from_residual.ensures.1 c.in_err-size.ensures.value c.in_err-size.ensures.ok_part
    (λ call (a : Asks Keyword.Make c.args.rest.now call).
    let x = asked a in
    none_seen _ _ c.in_err-size.ensures.ok_part c.split_size.ensures (x.0, x.1) x.3)

pub returns-in_err-bans : goal.returns-in_err-bans
returns-in_err-bans c =
    let buffered = seen_at _ _ c.in_ok-size.ensures.ok_part c.split_size.ensures in
    refused _ _ _ (vec_items {Z = Global}) c.from_residual-in_err-bans.result _ c.from_residual-in_err-bans.ensures.1 c.in_err-bans.ensures.read
    (λ call (a : Asks Keyword.Make c.args.rest.now call).
    let x = asked a in
    (x.2, subst (λ t. Spells t x.2) (one_buffer x.3 buffered).1 x.4))
    (λ opens. record { size = c.in_ok-size.size; bans = c.in_ok-size.text.now; buffered = buffered; opens = opens })

pub returns : goal.returns
returns c = asks_make (seen_at _ _ c.in_ok-size.ensures.ok_part c.split_size.ensures) c.in_ok-bans.ensures.read
