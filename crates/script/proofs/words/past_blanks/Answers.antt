use Rattle.std.proofs.Common.{◌≡◌, not, length, drop, unwrap_or, ap, ◌∙◌, rules, tests}
use Rattle.std.specs.Prelude.{position}
use Rattle.std.proofs.lemmas.Iterator.{YieldsList-from_slice}
use Rattle.std.proofs.lemmas.Iterator.Search.{position_from_yields_List}
use Rattle.std.proofs.lemmas.List.{take_rest}
use Rattle.script.specs.Words.{blank}
use Rattle.script.proofs.Scanning.{at_position}
use Rattle.script.proofs.words.past_blanks.Goals as goal

pub returns : goal.returns
returns c =
    let text = c.args.text.now in
    let found : c.position.result ≡ position (λ b. not (blank b)) text =
    position_from_yields_List _ _ _ c.position.result c.position.ensures.ran (YieldsList-from_slice text c.iter.ensures.rest) (λ x b q k. search (rules, tests))
    in
    let start = c.unwrap_or-start.ensures ∙ ap (λ o. unwrap_or o (length text)) found ∙ at_position (λ b. not (blank b)) text in
    take_rest text c.unwrap_or-start.result ∙ ap (λ n. drop n text) start
