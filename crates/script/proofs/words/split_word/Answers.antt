use Rattle.std.proofs.Common.{◌≡◌, length, take, drop, unwrap_or, ap, ◌∙◌, rules, tests}
use Rattle.std.specs.Prelude.{position}
use Rattle.std.proofs.lemmas.Iterator.{YieldsList-from_slice}
use Rattle.std.proofs.lemmas.Iterator.Search.{position_from_yields_List}
use Rattle.script.specs.Words.{blank}
use Rattle.script.proofs.Scanning.{at_position}
use Rattle.script.proofs.words.split_word.Goals as goal

pub returns : goal.returns
returns c =
    let text = c.args.text.now in
    let found : c.position.result ≡ position blank text =
    position_from_yields_List _ _ _ c.position.result c.position.ensures.ran (YieldsList-from_slice text c.iter.ensures.rest) (λ x b q k. search (rules, tests))
    in
    let end = c.unwrap_or-end.ensures ∙ ap (λ o. unwrap_or o (length text)) found ∙ at_position blank text in
    record { word = c.split_at.ensures.front ∙ ap (λ n. take n text) end; rest = c.split_at.ensures.back ∙ ap (λ n. drop n text) end }
