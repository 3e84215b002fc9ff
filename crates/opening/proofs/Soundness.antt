-- In the state that well-formed items open, a cell that is not empty has a subject as its row and an entry as its column.
use Rattle.std.proofs.Common.{◌≡◌, ℕ, true, List, Some, None, sym, subst}
use Rattle.std.proofs.lemmas.Bool.{and_parts, not-true, not-false}
use Rattle.model.specs.declared.counts.Counts.{Counts}
use Rattle.model.specs.Stamps.{stamp_of}
use Rattle.model.proofs.Unbroken.{to_unbroken}
use Rattle.protection.proofs.Sound.{sound_nothing, sound_put, sound_enter}
use Rattle.protection.specs.Sound.{Sound}
use Rattle.tapes.proofs.ItemTapes.{kept_of_all}
use Rattle.opening.specs.Items.{Item, entry, right, with_item, opened}
use Rattle.opening.specs.Rules.{item_rules, broken_after, well_formed}
use Rattle.opening.proofs.Forming.{opened_push}

module _ (c : Counts) (limit : ℕ) where
  item_sound : (items : List Item) (i : Item) → Sound (opened items) → broken_after c limit items i ≡ None → Sound (with_item (opened items) i)
  item_sound items (entry kind n a b c' d) sound ok =
      let kept = to_unbroken (item_rules c limit (opened items) (entry kind n a b c' d)) ok in
      sound_put n (Some (stamp_of kind a b c' d)) (opened items) (not-true _ (not-false _ kept.1.0)) sound
  item_sound items (right r s o) sound ok =
      let kept = to_unbroken (item_rules c limit (opened items) (right r s o)) ok in
      let suits = and_parts _ _ (not-false _ kept.1.0) in
      sound_enter r s o (opened items) suits.0 suits.1 sound

  pub opened_sound : (items : List Item) → well_formed c limit items ≡ true → Sound (opened items)
  opened_sound items formed =
      kept_of_all (broken_after c limit) (λ l. Sound (opened l))
      (λ before i sound ok. subst Sound (sym (opened_push before i)) (item_sound before i sound ok))
      sound_nothing items formed
