-- The turns of a loop over the items of a tape, where what the loop keeps is what the items so far make: the rules look at that
-- alone.
use Rattle.std.proofs.Common.{◌≡◌, ℕ, List, [], ◌∷◌, ◌++◌, Some, None, Option, Ok, Err, Result, sym, refl, ap, ◌∙◌}
use Rattle.model.specs.declared.fault.Fault.{Fault}
use Rattle.model.specs.Answers.{accepted, refusal, unless}
use Rattle.tapes.specs.declared.orders.Orders.{Orders}
use Rattle.tapes.specs.declared.reader.Placed.{Placed}
use Rattle.tapes.specs.ItemTapes.{EncodesItems, EncodesMade}
use Rattle.tapes.specs.Orders.{spelt}
use Rattle.tapes.specs.Steps.{Reads, Steps}
use Rattle.tapes.specs.Taking.{rule_of, with_order, taken}
use Rattle.tapes.proofs.ItemTapes.{Items, items_language, whole_encodes}
use Rattle.tapes.proofs.Languages.{Language}
use Rattle.tapes.proofs.Turns.{Stands, RightFault, breaks, extends, short, not_broken, stands_first, refused_next, refused_order, stands_on, read_whole}

-- The items of a tape, and what they make: one more adds to it, and breaks a rule or none by it.
pub record Making (I M : Type 0) : Type 0 where
  pub items : Items I
  pub made : List I → M
  pub rule : M → I → Option ℕ
  pub more : M → I → M
  pub made_more : (before : List I) (i : I) → made (before ++ i ∷ []) ≡ more (made before) i

-- the rules of the tape's grammar
abbrev pub rule_after : {I M : Type 0} → Making I M → (before : List I) → I → Option ℕ
rule_after m before i = m.rule (m.made before) i

abbrev pub making_language : {I M : Type 0} → Making I M → Language I (List I)
making_language m = items_language m.items (rule_after m)

-- the loop stands behind some items, and what it keeps is what they make
pub record Reached {I M : Type 0} (m : Making I M) (bytes : List ℕ) (s : Orders) (kept : M) : Type 0 where
  pub items : List I
  pub stands : Stands (making_language m) bytes s items
  pub holds : kept ≡ m.made items

module _ {I M : Type 0} (m : Making I M) (before : List I) where
  same_rule : (i : Option I) → rule_of m.rule (m.made before) i ≡ rule_of (rule_after m) before i
  same_rule None = refl
  same_rule (Some i) = refl

  same_more : (i : Option I) → with_order m.more (m.made before) i ≡ m.made (with_order (λ items j. items ++ j ∷ []) before i)
  same_more None = refl
  same_more (Some i) = sym (m.made_more before i)

pub reached_first : {I M : Type 0} {m : Making I M} {bytes : List ℕ} {s o : Orders} {kept : M} → Reads m.items.tape bytes 0 o → s ≡ o → kept ≡ m.made [] → Reached m bytes s kept
reached_first start same empty = record { items = []; stands = stands_first start same refl; holds = empty }

module _ {I M : Type 0} {m : Making I M} {bytes : List ℕ} {s t : Orders} {kept : M} (at : Reached m bytes s kept) where
  pub refused_item : {r : Result Placed Fault} {f : Fault} → Steps s (Some r) t → r ≡ Err f → RightFault (making_language m) bytes f
  refused_item step is = refused_next at.stands step is

  -- an order
  module _ {r : Result Placed Fault} {p : Placed} (step : Steps s (Some r) t) (is : r ≡ Ok p) where
    -- the rule that it breaks, by what is kept
    abbrev rule_here : Option ℕ
    rule_here = rule_of m.rule kept (m.items.said p.order)

    rule_is : rule_here ≡ breaks (making_language m) at.items p
    rule_is = ap (λ x. rule_of m.rule x (m.items.said p.order)) at.holds ∙ same_rule m at.items (m.items.said p.order)

    pub broken_item : (f : Fault) → refusal f ≡ taken m.items.tape p.offset rule_here → RightFault (making_language m) bytes f
    broken_item f h = refused_order at.stands step is f (h ∙ ap (taken m.items.tape p.offset) rule_is)

    pub reached_on : {after : M} → accepted tt ≡ taken m.items.tape p.offset rule_here → after ≡ unless rule_here kept (with_order m.more kept (m.items.said p.order)) → Reached m bytes t after
    reached_on {after} ok after_is =
        let more = extends (making_language m) at.items p in
        let ok_here = ok ∙ ap (taken m.items.tape p.offset) rule_is in
        let none : breaks (making_language m) at.items p ≡ None = not_broken m.items.tape p.offset _ ok_here in
        record {
          items = more;
          stands = stands_on at.stands step is ok_here (sym (ap (λ b. unless b at.items more) none));
          holds =
              after_is ∙ ap (λ b. unless b kept (with_order m.more kept (m.items.said p.order))) (rule_is ∙ none)
              ∙ ap (λ x. with_order m.more x (m.items.said p.order)) at.holds
              ∙ same_more m at.items (m.items.said p.order);
        }

  -- the end of the tape
  pub all_encoded : Steps s None t → EncodesItems (λ i. spelt (m.items.written i)) (rule_after m) bytes at.items
  all_encoded step = whole_encodes (rule_after m) (λ i. spelt (m.items.written i)) bytes at.items (short at.stands) (read_whole at.stands step refl)

  pub all_made : Steps s None t → EncodesMade (λ i. spelt (m.items.written i)) (rule_after m) m.made bytes kept
  all_made step = record { items = at.items; encodes = all_encoded step; makes = at.holds }
