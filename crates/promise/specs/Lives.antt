-- The life of a register: what it was asked since it was made, and what came back.
use Rattle.std.specs.Prelude.{◌≡◌, ℕ, Bool, true, false, List, [], ◌∷◌}
use Rattle.model.specs.Answers.{Answer, accepted}
use Rattle.register.specs.Openings.{Opens}
use Rattle.register.specs.Reads.{ruled}
use Rattle.register.specs.Requests.{Requested}
use Rattle.register.specs.States.{State, Kept, empty_state}
use Rattle.checker.specs.Checks.{Checked}
use Rattle.maker.specs.Making.{Made}

-- One call, with all that was handed over and all that came back. A making is handed a buffer, and leaves bytes in it.
pub data Event : Type 0 where
  opening : (tape : List ℕ) → (answer : Answer (Unit {0})) → Event
  request : (number : ℕ) → (names : List ℕ) → (answer : Answer ℕ) → Event
  ruling : (row column right : ℕ) → (answer : Bool) → Event
  check : (certificate bans : List ℕ) → (answer : Answer (Unit {0})) → Event
  making : (bans buffer : List ℕ) → (answer : Answer ℕ) → (after : List ℕ) → Event

-- What each call does and answers, by the relation that its own contract names. A question changes nothing.
abbrev pub Happens : Kept → State → Event → State → Type 0
Happens k before (opening tape answer) after = Opens k tape answer after
Happens k before (request number names answer) after = Requested k before number names answer after
Happens k before (ruling row column right answer) after = (answer ≡ ruled k.says before.protection row column right) × (after ≡ before)
Happens k before (check certificate bans answer) after = Checked k before certificate bans answer × (after ≡ before)
Happens k before (making bans buffer answer left) after = Made k before bans buffer answer left × (after ≡ before)

-- Calls one after the other, the last one first, from the making of a register to a state of it.
pub data Life (k : Kept) : List Event → State → Type 0 where
  begun : {s : State} → s ≡ empty_state → Life k [] s
  then : {es : List Event} {before after : State} (e : Event) → Life k es before → Happens k before e after → Life k (e ∷ es) after

abbrev pub is_opening : Event → Bool
is_opening (opening tape answer) = true
is_opening (request number names answer) = false
is_opening (ruling row column right answer) = false
is_opening (check certificate bans answer) = false
is_opening (making bans buffer answer after) = false

-- A check with these bans has accepted the certificate, and the register was not opened since. An opening counts whether it was
-- refused or not.
pub data AcceptedSince (certificate bans : List ℕ) : List Event → Type 0 where
  accepted_now : {es : List Event} → AcceptedSince certificate bans (check certificate bans (accepted tt) ∷ es)
  accepted_before : {e : Event} {es : List Event} → is_opening e ≡ false → AcceptedSince certificate bans es → AcceptedSince certificate bans (e ∷ es)
