use Rattle.std.proofs.Common.{ap, ◌∙◌, arith, true-eqb, false-eqb}
use Rattle.script.specs.Words.{front_word, past_word}
use Rattle.script.proofs.Parting.{begins_with, no_word}
use Rattle.script.proofs.words.first_word.Goals as goal

pub returns-then-is_empty : goal.returns-then-is_empty
returns-then-is_empty c = λ p b.
    no_word _ _ _ _ (c.split_word.ensures.word ∙ ap front_word c.past_blanks.ensures) (true-eqb _ 0 c.if-is_empty.ensures) b

pub returns-else-is_empty : goal.returns-else-is_empty
returns-else-is_empty c =
    let past = c.past_blanks.ensures in
    begins_with _ _ _
    (c.split_word.ensures.word ∙ ap front_word past)
    (c.split_word.ensures.rest ∙ ap past_word past)
    (omega (arith, false-eqb _ 0 c.if-is_empty.ensures))
