use Rattle.std.proofs.Common.{sym, ◌∙◌, arith, false-eqb}
use Rattle.std.proofs.lemmas.List.{at_drop_all}
use Rattle.script.proofs.Finding.{finds_none}
use Rattle.script.proofs.Numbering.{worth, worth_is, number_from, no_longer}
use Rattle.script.proofs.number.read_number.Goals as goal

pub returns-in_err-number : goal.returns-in_err-number
returns-in_err-number c =
    finds_none _ _ c.from_residual.ensures
    (λ n found.
    no_longer _ _ _ c.loop-b-test.true _ c.in_err-number.ensures n (c.loop-b.invariant.1 ∙ worth_is found.0) found.1)

pub returns : goal.returns
returns c =
    let word = c.args.word.now in
    let closed = at_drop_all (λ t. worth t c.loop-b.number) word _ c.loop-b-test.false in
    (number_from word _ (omega (arith, false-eqb _ 0 c.if-is_empty.ensures)) (sym c.loop-b.invariant.1 ∙ closed), c.loop-b.invariant.0)
