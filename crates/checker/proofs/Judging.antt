-- A flaw shows why a certificate is not accepted.
use Rattle.std.proofs.Common.{List, refl, inl, inr}
use Rattle.model.specs.Answers.{refused}
use Rattle.protection.specs.States.{Protection}
use Rattle.certificates.specs.declared.ban.Ban.{Ban}
use Rattle.certificates.specs.Certificates.{Certificate}
use Rattle.register.specs.States.{Kept}
use Rattle.checker.specs.declared.flaw.Flaw.{Flaw}
use Rattle.checker.specs.declared.flaw.Flaw.TheVariants.{NotContained, NotClosed as NotClosedBy, BanMet as BanMetBy}
use Rattle.checker.specs.declared.flaw.Stray.{Stray}
use Rattle.checker.specs.declared.flaw.Stray.TheVariants.{Unlisted, Cell}
use Rattle.checker.specs.Containing.{AtFault, IsStray, stray_name}
use Rattle.checker.specs.Flaws.{IsFlaw, flaw_number, flaw_place}
use Rattle.checker.specs.Judgements.{Judged, not_contained, not_closed, ban_met}

at_fault : (c : Certificate) (p : Protection) (stray : Stray) → IsStray c p stray → AtFault c p (stray_name stray)
at_fault c p (Unlisted n) is = inl is
at_fault c p (Cell n o right) is = inr (o, right, is)

pub flaw_judged : (k : Kept) (p : Protection) (c : Certificate) (bans : List Ban) (flaw : Flaw) → IsFlaw k p c bans flaw → Judged k p c bans (refused 6 (flaw_number flaw) (flaw_place flaw))
flaw_judged k p c bans (NotContained stray) is = (refl, not_contained refl (at_fault c p stray is.0, is.1))
flaw_judged k p c bans (NotClosedBy command escape) is = (refl, not_closed refl is.0 ((is.1.0.0, is.1.0.1, escape, is.1.0.2), is.1.1))
flaw_judged k p c bans (BanMetBy ban row column) is = (refl, ban_met refl is.0 is.1 ((is.2.0.0, is.2.0.1, (row, column, is.2.0.2)), is.2.1))
