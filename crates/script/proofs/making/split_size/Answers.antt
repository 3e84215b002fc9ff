use Rattle.std.proofs.Common.{ap}
use Rattle.std.specs.Option.{option_map}
use Rattle.script.specs.Making.{unsized, sized}
use Rattle.script.proofs.Finding.{finds_none}
use Rattle.script.proofs.Giving.{sized_at}
use Rattle.script.proofs.making.split_size.Goals as goal

pub returns-in-None : goal.returns-in-None
returns-in-None c = unsized (λ left right s. c.in-None.ensures (left, right) s)

pub returns-in_err-lone_number-in-Some : goal.returns-in_err-lone_number-in-Some
returns-in_err-lone_number-in-Some c =
    finds_none _ _ (ap (option_map (λ p. (p.0, p.1.now))) c.from_residual.ensures)
    (λ p b. c.in_err-lone_number-in-Some.ensures p.0 (sized_at c.in-Some.ensures b).0)

pub returns-in_ok-lone_number-in-Some : goal.returns-in_ok-lone_number-in-Some
returns-in_ok-lone_number-in-Some c = sized c.in-Some.ensures c.in_ok-lone_number-in-Some.ensures
