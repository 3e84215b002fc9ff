-- The bytes of a certificate tape. An item's case has its order byte as its number and the operands as its values.
use Rattle.std.specs.Prelude.{ℕ, List, [], ◌∷◌}
use Rattle.tapes.specs.Orders.{Case, spelt}
use Rattle.tapes.specs.Values.{value_on_tape}
use Rattle.certificates.specs.Items.{Item, stamp, allow}

-- 50 lists a stamp, 51 adds to what one is allowed on another
abbrev pub item_case : Item → Case
item_case (stamp kind a b c d) = record { number = 0x50; values = kind ∷ value_on_tape a ∷ value_on_tape b ∷ value_on_tape c ∷ value_on_tape d ∷ [] }
item_case (allow u v high low) = record { number = 0x51; values = u ∷ v ∷ high ∷ low ∷ [] }

abbrev pub code : Item → List ℕ
code i = spelt (item_case i)
