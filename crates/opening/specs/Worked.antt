-- The opening of the worked small kiosk: a card of grade 3, a card of grade 1 and a thing, and two rights of the first card.
use Rattle.std.specs.Prelude.{◌≡◌, ℕ, ◌≤◌, cond, List, [], ◌∷◌, Some, None, Option, ◌==◌, ◌↔◌}
use Rattle.model.specs.declared.kind.Kind.TheVariants.{Subject, Object}
use Rattle.model.specs.declared.stamp.Stamp.{Stamp}
use Rattle.model.specs.Answers.{Answer, accepted, refused}
use Rattle.model.specs.Kiosk.{kiosk_counts}
use Rattle.model.specs.Stamps.{stamp_of}
use Rattle.protection.specs.States.{Protection}
use Rattle.stores.specs.Matrices.{blank, written}
use Rattle.opening.specs.Items.{Item, entry, right, opened}
use Rattle.opening.specs.Reading.{OpeningRead}

abbrev pub kiosk_tape : List ℕ
kiosk_tape =
    0x40 ∷ 0x00 ∷ 0x03 ∷ 0xFF ∷ 0xFF ∷ 0xFF
    ∷ 0x40 ∷ 0x01 ∷ 0x01 ∷ 0xFF ∷ 0xFF ∷ 0xFF
    ∷ 0x41 ∷ 0x02 ∷ 0xFF ∷ 0xFF ∷ 0xFF ∷ 0xFF
    ∷ 0x42 ∷ 0x00 ∷ 0x00 ∷ 0x02
    ∷ 0x42 ∷ 0x01 ∷ 0x00 ∷ 0x01
    ∷ []

abbrev pub kiosk_items : List Item
kiosk_items =
    entry Subject 0 (Some 3) None None None
    ∷ entry Subject 1 (Some 1) None None None
    ∷ entry Object 2 None None None None
    ∷ right 0 0 2
    ∷ right 1 0 1
    ∷ []

abbrev pub kiosk_entry : (name : ℕ) → Option Stamp
kiosk_entry n =
    cond (n == 2) (Some (stamp_of Object None None None None))
    (cond (n == 1) (Some (stamp_of Subject (Some 1) None None None))
    (cond (n == 0) (Some (stamp_of Subject (Some 3) None None None)) None))

-- right 0 in the cell [0, 2], right 1 in the cell [0, 1], and nothing else
abbrev pub kiosk_state : Protection
kiosk_state = record { entry = kiosk_entry; cells = written (written blank 0 2 0x0001) 0 1 0x0002 }

-- The kiosk's tape has this reading under this limit, and no other.
abbrev pub KioskReads : (limit : ℕ) → Answer (List Item) → Type 0
KioskReads limit reading = (answer : Answer (List Item)) → OpeningRead kiosk_counts limit kiosk_tape answer ↔ (answer ≡ reading)

-- With room for both rights the items are accepted. With room for one, the order of the second is over the limit.
pub record SmallKiosk : Type 0 where
  pub opens : (limit : ℕ) → 2 ≤ limit → KioskReads limit (accepted kiosk_items)
  pub full : KioskReads 1 (refused 2 8 22)
  pub state : opened kiosk_items ≡ kiosk_state
