-- What the readings of the two tapes say of a check, and of a witness for its refusal.
use Rattle.std.proofs.Common.{◌≡◌, ℕ, List, MatchOption, Some, None, Option, inl, inr, refl, subst, arith}
use Rattle.model.specs.Answers.{Answer, accepted, refused}
use Rattle.protection.specs.States.{Protection}
use Rattle.certificates.specs.declared.ban.Ban.{Ban}
use Rattle.certificates.specs.Certificates.{Certificate}
use Rattle.certificates.proofs.Readings.{one_reading, one_bans_reading}
use Rattle.register.specs.States.{State, Kept}
use Rattle.checker.specs.declared.flaw.Flaw.{Flaw}
use Rattle.checker.specs.Checks.{BothRead, NotBothRead, Checked, bad_certificate, bad_bans, judged, Witnessed, ShowsRefusal}
use Rattle.checker.specs.Flaws.{IsFlaw, flaw_number, flaw_place}
use Rattle.checker.specs.Judgements.{Accepts}
use Rattle.checker.proofs.Answering.{not_both, same_read, one_check}
use Rattle.checker.proofs.Excluding.{judged_once}
use Rattle.checker.proofs.Judging.{flaw_judged}

-- what is accepted has no flaw
accepted_flawless : (k : Kept) (p : Protection) (c : Certificate) (bans : List Ban) (flaw : Flaw) → Accepts k p c bans → IsFlaw k p c bans flaw → ⊥
accepted_flawless k p c bans flaw accepts is =
    not_both tt 6 (flaw_number flaw) (flaw_place flaw)
    (judged_once k c p bans (refused 6 (flaw_number flaw) (flaw_place flaw)) (accepted tt) (flaw_judged k p c bans flaw is) accepts)

-- the refusal of a check
abbrev refusal_by : (layer number place : ℕ) → Answer (Unit {0})
refusal_by layer number place = refused layer number place

same_layer : (layer number place l n p : ℕ) → refusal_by layer number place ≡ refusal_by l n p → layer ≡ l
same_layer layer number place l n p is = cc

module _ (k : Kept) (s : State) (certificate bans : List ℕ) where
  pub refused_check : (layer number place : ℕ) → NotBothRead k.counts certificate bans layer number place → Checked k s certificate bans (refused layer number place)
  refused_check layer number place (inl bad) = bad_certificate layer number place bad refl
  refused_check layer number place (inr bad) = bad_bans bad.0 layer number place bad.1 bad.2 refl

  not_read : (layer number place : ℕ) (c : Certificate) (banned : List Ban) → NotBothRead k.counts certificate bans layer number place → BothRead k.counts certificate bans c banned → ⊥
  not_read layer number place c banned (inl bad) read = not_both c layer number place (one_reading k.counts certificate (refused layer number place) (accepted c) bad read.0)
  not_read layer number place c banned (inr bad) read = not_both banned layer number place (one_bans_reading k.counts bans (refused layer number place) (accepted banned) bad.2 read.1)

  pub no_witness : (layer number place : ℕ) → NotBothRead k.counts certificate bans layer number place → Witnessed k s certificate bans None
  no_witness layer number place bad c banned flaw read is = not_read layer number place c banned bad read

  pub witness_of : (c : Certificate) (banned : List Ban) (found : Option Flaw) → BothRead k.counts certificate bans c banned → MatchOption found (Accepts k s.protection c banned) (IsFlaw k s.protection c banned) → Witnessed k s certificate bans found
  witness_of c banned (Some flaw) read is = (c, banned, read, is)
  witness_of c banned None read accepts = λ d forbidden flaw again is.
      let same : d ≡ c = same_read d c (one_reading k.counts certificate (accepted d) (accepted c) again.0 read.0) in
      let alike : forbidden ≡ banned = same_read forbidden banned (one_bans_reading k.counts bans (accepted forbidden) (accepted banned) again.1 read.1) in
      accepted_flawless k s.protection c banned flaw accepts
      (subst (λ l. IsFlaw k s.protection c l flaw) alike (subst (λ t. IsFlaw k s.protection t forbidden flaw) same is))

  -- the tapes are refused in layers of their own
  not_layer_6 : (layer number place : ℕ) → NotBothRead k.counts certificate bans layer number place → layer ≡ 6 → ⊥
  not_layer_6 layer number place (inl bad) is = let here : layer ≡ 3 = bad.0 in omega (arith, here, is)
  not_layer_6 layer number place (inr bad) is = let here : layer ≡ 4 = bad.2.0 in omega (arith, here, is)

  pub tapes_refused : (layer number place : ℕ) → NotBothRead k.counts certificate bans layer number place → ShowsRefusal k s certificate bans None
  tapes_refused layer number place bad n p checked =
      not_layer_6 layer number place bad
      (same_layer layer number place 6 n p (one_check k s certificate bans (refused layer number place) (refused 6 n p) (refused_check layer number place bad) checked))

  pub refused_by : (c : Certificate) (banned : List Ban) (found : Option Flaw) → BothRead k.counts certificate bans c banned → MatchOption found (Accepts k s.protection c banned) (IsFlaw k s.protection c banned) → ShowsRefusal k s certificate bans found
  refused_by c banned (Some flaw) read is = judged c banned read.0 read.1 (flaw_judged k s.protection c banned flaw is)
  refused_by c banned None read accepts = λ n p checked.
      not_both tt 6 n p (one_check k s certificate bans (refused 6 n p) (accepted tt) checked (judged c banned read.0 read.1 accepts))
