use Rattle.std.proofs.Common.{ap}
use Rattle.std.specs.Option.{option_map}
use Rattle.script.proofs.Finding.{finds_none}
use Rattle.script.proofs.Leading.{number_at}
use Rattle.script.proofs.number.first_number.Goals as goal

pub returns-in_err-word : goal.returns-in_err-word
returns-in_err-word c =
    finds_none _ _ (ap (option_map (λ p. (p.0, p.1.now))) c.from_residual.ensures) (λ p l. c.in_err-word.ensures (l.word, p.1) l.begun)

pub returns-in_err-number : goal.returns-in_err-number
returns-in_err-number c =
    finds_none _ _ (ap (option_map (λ p. (p.0, p.1.now))) c.from_residual-in_err-number.ensures)
    (λ p l. c.in_err-number.ensures p.0 (number_at c.in_ok-word.ensures l))
