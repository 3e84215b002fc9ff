use Rattle.std.proofs.Common.{ap, subst}
use Rattle.std.specs.Option.{option_map}
use Rattle.std.proofs.lemmas.Bool.{both_ways}
use Rattle.script.specs.Words.{Alone, Blanks}
use Rattle.script.proofs.Finding.{finds_none, finds_if, seen_if}
use Rattle.script.proofs.Parting.{one_beginning}
use Rattle.script.proofs.words.lone_word.Goals as goal

pub returns-in_err-word : goal.returns-in_err-word
returns-in_err-word c =
    finds_none _ _ (ap (option_map (λ x. x.now)) c.from_residual.ensures) (λ word a. c.in_err-word.ensures (word, a.tail) a.begun)

pub returns : goal.returns
returns c = rw (c.then_some.ensures, seen_if)
    (finds_if (Alone c.args.text.now) _ c.in_ok-word.word.now
    (λ is. record { tail = c.in_ok-word.rest.now; begun = c.in_ok-word.ensures; ended = c.only_blanks.ensures.0 is })
    (λ is word a. both_ways _ is (c.only_blanks.ensures.1 (subst Blanks (one_beginning a.begun c.in_ok-word.ensures).1 a.ended))))
