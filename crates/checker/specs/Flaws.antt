-- What a witness for a refusal shows.
use Rattle.std.specs.Prelude.{◌≡◌, ℕ, List, Some, slice_get}
use Rattle.model.specs.declared.stamp.Stamp.{Stamp}
use Rattle.model.specs.Lowest.{NoneBelow}
use Rattle.scheme.specs.Commands.{Command}
use Rattle.protection.specs.States.{Protection}
use Rattle.certificates.specs.declared.ban.Ban.{Ban}
use Rattle.certificates.specs.Bans.{MetBy}
use Rattle.certificates.specs.Certificates.{Certificate}
use Rattle.castings.specs.declared.escape.Escape.{Escape}
use Rattle.castings.specs.Escapes.{IsEscape}
use Rattle.register.specs.States.{Kept}
use Rattle.checker.specs.declared.flaw.Flaw.{Flaw}
use Rattle.checker.specs.declared.flaw.Stray.{Stray}
use Rattle.checker.specs.declared.flaw.Flaw.TheVariants.{NotContained, NotClosed as NotClosedBy, BanMet as BanMetBy}
use Rattle.checker.specs.Containing.{Contains, AtFault, IsStray, stray_name}
use Rattle.checker.specs.Judgements.{ClosedUnderAll, NotClosed, BanMet}

-- the rule that the flaw breaks, and the place
abbrev pub flaw_number : Flaw → ℕ
flaw_number (NotContained stray) = 17
flaw_number (NotClosedBy command escape) = 18
flaw_number (BanMetBy ban row column) = 19

abbrev pub flaw_place : Flaw → ℕ
flaw_place (NotContained stray) = stray_name stray
flaw_place (NotClosedBy command escape) = command
flaw_place (BanMetBy ban row column) = ban

-- the lowest name that is at fault, by a stamp or a cell
abbrev pub IsLowestStray : Certificate → Protection → Stray → Type 0
IsLowestStray c p stray = IsStray c p stray × NoneBelow (AtFault c p) (stray_name stray)

-- the lowest command with a casting that escapes, by that casting
abbrev pub IsLowestEscape : Kept → Certificate → (number : ℕ) → Escape → Type 0
IsLowestEscape k c number escape = ((m : Command) × (slice_get k.commands number ≡ Some m) × IsEscape k.covers c m escape) × NoneBelow (NotClosed k c) number

-- the lowest ban that is met, by two stamps
abbrev pub IsLowestMet : Certificate → List Ban → (number : ℕ) → (u v : Stamp) → Type 0
IsLowestMet c bans number u v = ((b : Ban) × (slice_get bans number ≡ Some b) × MetBy c b u v) × NoneBelow (BanMet c bans) number

-- it is the first flaw in the order of the rules
abbrev pub IsFlaw : Kept → Protection → Certificate → List Ban → Flaw → Type 0
IsFlaw k p c bans (NotContained stray) = IsLowestStray c p stray
IsFlaw k p c bans (NotClosedBy command escape) = Contains c p × IsLowestEscape k c command escape
IsFlaw k p c bans (BanMetBy ban row column) = Contains c p × ClosedUnderAll k c × IsLowestMet c bans ban row column
