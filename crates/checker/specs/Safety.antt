-- Why the test is right: what contains the register, and is closed under every command, contains it for good.
use Rattle.std.specs.Prelude.{◌≡◌, ℕ, true, List, Some}
use Rattle.model.specs.declared.stamp.Stamp.{Stamp}
use Rattle.model.specs.Answers.{Answer}
use Rattle.model.specs.Masks.{has}
use Rattle.protection.specs.States.{Protection}
use Rattle.certificates.specs.declared.ban.Ban.{Ban}
use Rattle.certificates.specs.Bans.{fits, Meets}
use Rattle.certificates.specs.Certificates.{Certificate}
use Rattle.register.specs.Requests.{Requested}
use Rattle.register.specs.States.{State, Kept}
use Rattle.checker.specs.Containing.{Contains}
use Rattle.checker.specs.Judgements.{ClosedUnderAll}

-- One request after the other, accepted or refused, leads from the first state to the last.
pub data Requests (k : Kept) : State → State → Type 0 where
  none : {s : State} → Requests k s s
  then : {s t u : State} {answer : Answer ℕ} (number : ℕ) (names : List ℕ) → Requested k s number names answer t → Requests k t u → Requests k s u

-- A state breaks a ban when a card holds its right on an entry, and their stamps fit it.
pub record Breaks (p : Protection) (ban : Ban) : Type 0 where
  pub row : ℕ
  pub column : ℕ
  pub u : Stamp
  pub v : Stamp
  pub holder : p.entry row ≡ Some u
  pub held : p.entry column ≡ Some v
  pub fit : fits ban u v ≡ true
  pub right : has (p.cells row column) ban.right ≡ true

pub record KeepsInside (k : Kept) : Type 0 where
  -- after a request
  pub request : (c : Certificate) (s t : State) (number : ℕ) (names : List ℕ) (answer : Answer ℕ) → ClosedUnderAll k c → Contains c s.protection → Requested k s number names answer t → Contains c t.protection
  -- and after every list of them
  pub requests : (c : Certificate) (s t : State) → ClosedUnderAll k c → Contains c s.protection → Requests k s t → Contains c t.protection
  -- and what it contains breaks no ban that it does not meet
  pub bans : (c : Certificate) (p : Protection) (ban : Ban) → Contains c p → (Meets c ban → ⊥) → Breaks p ban → ⊥
