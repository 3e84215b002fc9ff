use Rattle.std.proofs.Common.{sym, ap, ◌∙◌}
use Rattle.script.specs.Words.{front_word, past_word}
use Rattle.script.specs.Calls.{silent, asked_call, call_line}
use Rattle.script.proofs.Finding.{found_at, none_at}
use Rattle.script.proofs.Saying.{silent_says, begins_key, asked_by, no_key_says}
use Rattle.script.proofs.Refusing.{refused, unreadable}
use Rattle.script.proofs.line.read_line.Goals as goal

pub returns-then-is_silent-clause-said : goal.returns-then-is_silent-clause-said
returns-then-is_silent-clause-said c = silent_says _ (ap silent (sym c.past_blanks-text.ensures) ∙ sym c.if-is_silent.ensures)

pub returns-in_err-key-clause-said : goal.returns-in_err-key-clause-said
returns-in_err-key-clause-said c =
    let past = c.past_blanks-text.ensures in
    let none = none_at _ c.in_err-key.ensures.ok_part c.find_keyword.ensures in
    unreadable _ _ _ c.from_residual.result _ _ c.from_residual.ensures.1 c.in_err-key.ensures.value c.in_err-key.ensures.ok_part
    (no_key_says _ (ap silent (sym past) ∙ sym c.if-is_silent.ensures) (λ key is. none key (c.split_word.ensures.word ∙ ap front_word past ∙ is)))

pub returns-in_err-read_call-clause-said : goal.returns-in_err-read_call-clause-said
returns-in_err-read_call-clause-said c =
    let past = c.past_blanks-text.ensures in
    let key = c.in_ok-key.key in
    let word = found_at _ c.in_ok-key.ensures.ok_part c.find_keyword.ensures in
    let b = begins_key _ _ _ key (c.split_word.ensures.word ∙ ap front_word past) (c.split_word.ensures.rest ∙ ap past_word past) word in
    refused _ _ _ asked_call c.from_residual-in_err-read_call.result _ c.from_residual-in_err-read_call.ensures.1 c.in_err-read_call.ensures
    (λ call says. (call, asked_by b says))
    (λ wants. record { key = key; rest = c.split_word.result.1.now; begun = b; wants = wants })

pub returns-clause-said : goal.returns-clause-said
returns-clause-said c =
    let past = c.past_blanks-text.ensures in
    let word = found_at _ c.in_ok-key.ensures.ok_part c.find_keyword.ensures in
    let b = begins_key _ _ _ c.in_ok-key.key (c.split_word.ensures.word ∙ ap front_word past) (c.split_word.ensures.rest ∙ ap past_word past) word in
    call_line b c.in_ok-read_call.ensures
