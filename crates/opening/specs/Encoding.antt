-- The bytes of an opening. An item's case has its order byte as its number and the operands as its values.
use Rattle.std.specs.Prelude.{ℕ, List, [], ◌∷◌}
use Rattle.model.specs.declared.kind.Kind.{Kind}
use Rattle.model.specs.declared.kind.Kind.TheVariants.{Subject, Object}
use Rattle.tapes.specs.Orders.{Case, spelt}
use Rattle.tapes.specs.Values.{value_on_tape}
use Rattle.opening.specs.Items.{Item, entry, right}

-- 40 lists a card, 41 a thing
abbrev pub entry_byte : Kind → ℕ
entry_byte Subject = 0x40
entry_byte Object = 0x41

abbrev pub item_case : Item → Case
item_case (entry kind n a b c d) = record { number = entry_byte kind; values = n ∷ value_on_tape a ∷ value_on_tape b ∷ value_on_tape c ∷ value_on_tape d ∷ [] }
item_case (right r s o) = record { number = 0x42; values = r ∷ s ∷ o ∷ [] }

abbrev pub code : Item → List ℕ
code i = spelt (item_case i)
