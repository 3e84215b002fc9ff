-- What is to be said of a certificate and bans, on a register as it stands.
use Rattle.std.specs.Prelude.{◌≡◌, ℕ, Bool, List, Some, slice_get}
use Rattle.model.specs.Answers.{Answer, accepted, refused}
use Rattle.model.specs.Lowest.{Lowest}
use Rattle.scheme.specs.Commands.{Command}
use Rattle.protection.specs.States.{Protection}
use Rattle.certificates.specs.declared.ban.Ban.{Ban}
use Rattle.certificates.specs.Bans.{Meets}
use Rattle.certificates.specs.Certificates.{Certificate}
use Rattle.castings.specs.declared.escape.Escape.{Escape}
use Rattle.castings.specs.Closure.{Closed}
use Rattle.castings.specs.Escapes.{IsEscape}
use Rattle.register.specs.States.{Kept}
use Rattle.checker.specs.Containing.{Contains, AtFault}

-- closed under each command of a list
abbrev pub ClosedUnderEach : (covers : (k a b : ℕ) → Bool) → List Command → Certificate → Type 0
ClosedUnderEach covers commands c = (number : ℕ) (m : Command) → slice_get commands number ≡ Some m → Closed covers c m

-- and under each that the register keeps
abbrev pub ClosedUnderAll : Kept → Certificate → Type 0
ClosedUnderAll k c = ClosedUnderEach k.covers k.commands c

-- the command with this number has a casting that escapes
abbrev pub NotClosed : Kept → Certificate → (number : ℕ) → Type 0
NotClosed k c number = (m : Command) × (slice_get k.commands number ≡ Some m) × (e : Escape) × IsEscape k.covers c m e

-- the ban with this number is met
abbrev pub BanMet : Certificate → List Ban → (number : ℕ) → Type 0
BanMet c bans number = (ban : Ban) × (slice_get bans number ≡ Some ban) × Meets c ban

-- none of them is
abbrev pub MeetsNone : Certificate → List Ban → Type 0
MeetsNone c bans = (number : ℕ) → BanMet c bans number → ⊥

-- The certificate contains the register, is closed under every command and meets none of the bans.
pub record Accepts (k : Kept) (p : Protection) (c : Certificate) (bans : List Ban) : Type 0 where
  pub contains : Contains c p
  pub closed : ClosedUnderAll k c
  pub unmet : MeetsNone c bans

-- Why it is not accepted, by the number of the rule and the place. The rules are tried in the order of their numbers.
pub data Flawed (k : Kept) (p : Protection) (c : Certificate) (bans : List Ban) (number place : ℕ) : Type 0 where
  -- 17 at the lowest name that is at fault
  not_contained : number ≡ 17 → Lowest (AtFault c p) place → Flawed k p c bans number place
  -- 18 at the lowest command under which it is not closed
  not_closed : number ≡ 18 → Contains c p → Lowest (NotClosed k c) place → Flawed k p c bans number place
  -- 19 at the lowest ban that is met
  ban_met : number ≡ 19 → Contains c p → ClosedUnderAll k c → Lowest (BanMet c bans) place → Flawed k p c bans number place

-- accepted, or refused in layer 6
abbrev pub Judged : Kept → Protection → Certificate → List Ban → Answer (Unit {0}) → Type 0
Judged k p c bans (accepted x) = Accepts k p c bans
Judged k p c bans (refused layer number place) = (layer ≡ 6) × Flawed k p c bans number place
