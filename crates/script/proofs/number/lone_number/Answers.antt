use Rattle.script.proofs.Finding.{finds_none, finds_like}
use Rattle.script.proofs.Giving.{lone_at}
use Rattle.script.proofs.number.lone_number.Goals as goal

pub returns-in_err-lone_word : goal.returns-in_err-lone_word
returns-in_err-lone_word c = finds_none _ _ c.from_residual.ensures (λ n l. c.in_err-lone_word.ensures l.digits l.alone)

pub returns : goal.returns
returns c =
    let alone = c.in_ok-lone_word.ensures in
    finds_like _ _ c.read_number.result
    (λ n found. record { digits = c.in_ok-lone_word.field-0.now; alone = alone; number = found.0; within = found.1 })
    (λ n l. lone_at alone l)
    c.read_number.ensures
