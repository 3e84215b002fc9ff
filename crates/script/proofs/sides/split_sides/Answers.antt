use Rattle.std.proofs.Common.{◌≡◌, ℕ, List, [], ◌∷◌, length, take, drop, unwrap_or, sym, refl, ap, ◌∙◌, arith, rules, tests}
use Rattle.std.specs.Prelude.{position}
use Rattle.std.proofs.lemmas.Iterator.{YieldsList-from_slice}
use Rattle.std.proofs.lemmas.Iterator.Search.{position_from_yields_List}
use Rattle.script.specs.Sides.{stroke}
use Rattle.script.proofs.Scanning.{at_position}
use Rattle.script.proofs.Siding.{no_sides, sides_of}
use Rattle.script.proofs.sides.split_sides.Goals as goal

-- a list without elements
none : (xs : List ℕ) → length xs ≡ 0 → xs ≡ []
none [] is = refl
none (x ∷ xs) is = absurd (omega (arith, is))

pub returns-in-empty : goal.returns-in-empty
returns-in-empty c =
    let text = c.args.text.now in
    let found : c.position.result ≡ position stroke text =
    position_from_yields_List _ _ _ c.position.result c.position.ensures.ran (YieldsList-from_slice text c.iter.ensures.rest) (λ x b q k. search (rules, tests))
    in
    let end = c.unwrap_or-end.ensures ∙ ap (λ o. unwrap_or o (length text)) found ∙ at_position stroke text in
    λ p s.
    no_sides text (sym (c.split_at.ensures.back ∙ ap (λ n. drop n text) end) ∙ none _ (omega (arith, c.in-empty.len_below))) p.0 p.1 s

pub returns-in-len1-up : goal.returns-in-len1-up
returns-in-len1-up c =
    let text = c.args.text.now in
    let found : c.position.result ≡ position stroke text =
    position_from_yields_List _ _ _ c.position.result c.position.ensures.ran (YieldsList-from_slice text c.iter.ensures.rest) (λ x b q k. search (rules, tests))
    in
    let end = c.unwrap_or-end.ensures ∙ ap (λ o. unwrap_or o (length text)) found ∙ at_position stroke text in
    sides_of text _ _ (c.split_at.ensures.front ∙ ap (λ n. take n text) end) (c.split_at.ensures.back ∙ ap (λ n. drop n text) end) c.in-len1-up.len_at_least
