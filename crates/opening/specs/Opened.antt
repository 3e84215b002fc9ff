-- What an opening tape opens: what is answered, and what stands then.
use Rattle.std.specs.Prelude.{◌≡◌, ℕ, true, List, Some, ◌↔◌}
use Rattle.std.specs.List.{Any, Contains}
use Rattle.model.specs.declared.counts.Counts.{Counts}
use Rattle.model.specs.declared.stamp.Stamp.{Stamp}
use Rattle.model.specs.Answers.{Answer, accepted, refused}
use Rattle.model.specs.Masks.{has}
use Rattle.model.specs.Stamps.{stamp_of}
use Rattle.protection.specs.States.{Protection, nothing}
use Rattle.opening.specs.Items.{Item, entry, right, opened}
use Rattle.opening.specs.Reading.{Encodes, OpeningRead}

-- the answer to the caller: a refusal as it is, and of an opening that is accepted, that it is
abbrev pub told : Answer (List Item) → Answer (Unit {0})
told (accepted items) = accepted tt
told (refused layer number place) = refused layer number place

-- what stands then: what the items say, and after a refusal nothing
abbrev pub left : Answer (List Item) → Protection
left (accepted items) = opened items
left (refused layer number place) = nothing

-- The tape has a reading, which is what is answered, and what stands then.
pub record Opened (c : Counts) (limit : ℕ) (tape : List ℕ) (answer : Answer (Unit {0})) (state : Protection) : Type 0 where
  pub reading : Answer (List Item)
  pub read : OpeningRead c limit tape reading
  pub answered : answer ≡ told reading
  pub stands : state ≡ left reading

-- The same while orders are taken in: after a refusal what stands is not told.
abbrev pub Holds : Answer (List Item) → Protection → Type 0
Holds (accepted items) state = state ≡ opened items
Holds (refused layer number place) state = Unit

pub record TakenIn (c : Counts) (limit : ℕ) (tape : List ℕ) (answer : Answer (Unit {0})) (state : Protection) : Type 0 where
  pub reading : Answer (List Item)
  pub read : OpeningRead c limit tape reading
  pub answered : answer ≡ told reading
  pub holds : Holds reading state

-- the item lists an entry of this name with this stamp
abbrev pub Lists : (name : ℕ) → Stamp → Item → Type 0
Lists n stamp (entry kind m a b c d) = (m ≡ n) × (stamp_of kind a b c d ≡ stamp)
Lists n stamp (right r s o) = ⊥

-- The entries of a state, with their stamps, are exactly those that the items list, and so are its rights.
pub record Exactly (items : List Item) (p : Protection) : Type 0 where
  pub entries : (n : ℕ) (stamp : Stamp) → (p.entry n ≡ Some stamp) ↔ Any (Lists n stamp) items
  pub rights : (r s o : ℕ) → (has (p.cells s o) r ≡ true) ↔ Contains items (right r s o)

-- An opening is accepted exactly if its tape encodes something, and then what that says stands, exactly.
pub record OpenedExactly (c : Counts) (limit : ℕ) (tape : List ℕ) (answer : Answer (Unit {0})) (state : Protection) : Type 0 where
  pub only : answer ≡ accepted tt → (items : List Item) × Encodes c limit tape items
  pub each : (items : List Item) → Encodes c limit tape items → (answer ≡ accepted tt) × (state ≡ opened items) × Exactly items state
