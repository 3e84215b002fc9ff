-- The lasting promise.
use Rattle.std.specs.Prelude.{◌≡◌, ℕ, true, ◌⊎◌, List, ◌∷◌, Some, slice_get}
use Rattle.model.specs.declared.stamp.Stamp.{Stamp}
use Rattle.model.specs.Masks.{has}
use Rattle.protection.specs.States.{Protection}
use Rattle.certificates.specs.declared.ban.Ban.{Ban}
use Rattle.certificates.specs.Bans.{fits}
use Rattle.certificates.specs.Certificates.{Certificate, lists, allows}
use Rattle.register.specs.Reads.{ruled}
use Rattle.register.specs.States.{State, Kept}
use Rattle.checker.specs.Checks.{BothRead}
use Rattle.maker.specs.Making.{MakesLeast}
use Rattle.promise.specs.Lives.{Event, Life, AcceptedSince}

-- The cell of the two names holds the right, or the ruling call says yes to it.
abbrev pub MayUse : Kept → Protection → (row column right : ℕ) → Type 0
MayUse k p row column right = (has (p.cells row column) right ≡ true) ⊎ (ruled k.says p row column right ≡ true)

-- A register meets a ban when the stamps of two of its entries fit it, of which the first is then a card, and the first may use its
-- right on the second.
pub record MeetsBan (k : Kept) (p : Protection) (ban : Ban) : Type 0 where
  pub row : ℕ
  pub column : ℕ
  pub u : Stamp
  pub v : Stamp
  pub stands : p.entry row ≡ Some u
  pub stands_too : p.entry column ≡ Some v
  pub fit : fits ban u v ≡ true
  pub uses : MayUse k p row column ban.right

-- What a certificate says of a register, and what follows of bans.
pub record Guards (k : Kept) (p : Protection) (c : Certificate) (bans : List Ban) : Type 0 where
  -- the stamp of each entry is listed
  pub stamps : (name : ℕ) (u : Stamp) → p.entry name ≡ Some u → lists c u ≡ true
  -- each right that an entry may use on an entry is allowed between their stamps
  pub rights : (row column right : ℕ) (u v : Stamp) → p.entry row ≡ Some u → p.entry column ≡ Some v → MayUse k p row column right → has (allows c u v) right ≡ true
  -- the register meets no ban
  pub unmet : (number : ℕ) (ban : Ban) → slice_get bans number ≡ Some ban → MeetsBan k p ban → ⊥

-- The two tapes list a certificate and bans, and it guards the register against them.
pub record Guarded (k : Kept) (p : Protection) (certificate bans : List ℕ) : Type 0 where
  pub c : Certificate
  pub banned : List Ban
  pub read : BothRead k.counts certificate bans c banned
  pub guards : Guards k p c banned

-- What is promised of a register that has gone through these events and is now in this state.
pub record Promised (k : Kept) (es : List Event) (s : State) : Type 0 where
  -- each certificate that a check has accepted since the last opening guards it, against the bans of that check
  pub guarded : (certificate bans : List ℕ) → AcceptedSince certificate bans es → Guarded k s.protection certificate bans
  -- and a making hands out the least certificate that a check would accept, if there is one
  pub makes : MakesLeast k s

-- It is promised after every life.
abbrev pub LastingPromise : Kept → Type 0
LastingPromise k = (es : List Event) (s : State) → Life k es s → Promised k es s

-- Every life that leads to the state before leads on to the state after, by this event, and then it is promised too.
abbrev pub LivesOn : Kept → (before : State) → Event → (after : State) → Type 0
LivesOn k before e after = (es : List Event) → Life k es before → Life k (e ∷ es) after × Promised k (e ∷ es) after
