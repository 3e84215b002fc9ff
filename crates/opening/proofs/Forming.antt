-- What the items of an opening make, and its language.
use Rattle.std.proofs.Common.{◌≡◌, ℕ, List, [], ◌∷◌, ◌++◌}
use Rattle.std.proofs.lemmas.List.Sums.{fold-append}
use Rattle.model.specs.declared.counts.Counts.{Counts}
use Rattle.protection.specs.States.{Protection, nothing}
use Rattle.tapes.proofs.ItemTapes.{items_encoding}
use Rattle.tapes.proofs.Law.{Encoding}
use Rattle.tapes.proofs.Making.{Making}
use Rattle.opening.specs.Encoding.{code}
use Rattle.opening.specs.Items.{Item, with_item, opened}
use Rattle.opening.specs.Reading.{opening_grammar, Encodes}
use Rattle.opening.specs.Rules.{rule, broken_after}
use Rattle.opening.proofs.Language.{opening_items}

-- one item more at the end
pub opened_push : (before : List Item) (i : Item) → opened (before ++ i ∷ []) ≡ with_item (opened before) i
opened_push before i = fold-append with_item nothing before (i ∷ [])

abbrev pub opening_making : Counts → (limit : ℕ) → Making Item Protection
opening_making c limit = record { items = opening_items; made = opened; rule = rule c limit; more = with_item; made_more = opened_push }

pub opening_encoding : (c : Counts) (limit : ℕ) → Encoding (opening_grammar c limit) (Encodes c limit)
opening_encoding c limit = items_encoding (broken_after c limit) code
