-- No check has two answers, and it accepts exactly what it should.
use Rattle.std.proofs.Common.{◌≡◌, ℕ, List, sym, ap, subst, ◌∙◌}
use Rattle.model.specs.Answers.{Answer, accepted, refused}
use Rattle.certificates.specs.declared.ban.Ban.{Ban}
use Rattle.certificates.specs.BanTapes.{EncodesBans}
use Rattle.certificates.specs.Certificates.{Certificate}
use Rattle.certificates.specs.Reading.{Encodes}
use Rattle.certificates.proofs.Readings.{one_reading, one_bans_reading}
use Rattle.register.specs.States.{State, Kept}
use Rattle.checker.specs.Checks.{Checked, bad_certificate, bad_bans, judged, AcceptedExactly, OneCheck}
use Rattle.checker.specs.Judgements.{Accepts, Judged}
use Rattle.checker.proofs.Excluding.{judged_once}

-- the answer without what was read
abbrev pub retold : {X : Type 0} → Answer X → Answer (Unit {0})
retold (accepted x) = accepted tt
retold (refused layer number place) = refused layer number place

pub not_both : {X P : Type 0} (x : X) (layer number place : ℕ) → refused layer number place ≡ accepted x → P
not_both x layer number place is = cc

pub same_read : {X : Type 0} (x y : X) → accepted x ≡ accepted y → x ≡ y
same_read x y is = cc

module _ (k : Kept) where
  judged_alike : (s : State) (c d : Certificate) (banned forbidden : List Ban) (a b : Answer (Unit {0})) → c ≡ d → banned ≡ forbidden → Judged k s.protection c banned a → Judged k s.protection d forbidden b → a ≡ b
  judged_alike s c d banned forbidden a b same alike one other =
      judged_once k d s.protection forbidden a b
      (subst (λ l. Judged k s.protection d l a) alike (subst (λ t. Judged k s.protection t banned a) same one))
      other

  pub one_check : OneCheck k
  one_check s t u a b (bad_certificate l n p read is) (bad_certificate m o q read₂ is₂) = is ∙ ap retold (one_reading k.counts t (refused l n p) (refused m o q) read read₂) ∙ sym is₂
  one_check s t u a b (bad_certificate l n p read is) (bad_bans c m o q read₂ bans₂ is₂) = not_both c l n p (one_reading k.counts t (refused l n p) (accepted c) read read₂)
  one_check s t u a b (bad_certificate l n p read is) (judged c banned read₂ bans₂ says₂) = not_both c l n p (one_reading k.counts t (refused l n p) (accepted c) read read₂)
  one_check s t u a b (bad_bans c l n p read bans is) (bad_certificate m o q read₂ is₂) = not_both c m o q (one_reading k.counts t (refused m o q) (accepted c) read₂ read)
  one_check s t u a b (bad_bans c l n p read bans is) (bad_bans d m o q read₂ bans₂ is₂) = is ∙ ap retold (one_bans_reading k.counts u (refused l n p) (refused m o q) bans bans₂) ∙ sym is₂
  one_check s t u a b (bad_bans c l n p read bans is) (judged d banned read₂ bans₂ says₂) = not_both banned l n p (one_bans_reading k.counts u (refused l n p) (accepted banned) bans bans₂)
  one_check s t u a b (judged c banned read bans says) (bad_certificate m o q read₂ is₂) = not_both c m o q (one_reading k.counts t (refused m o q) (accepted c) read₂ read)
  one_check s t u a b (judged c banned read bans says) (bad_bans d m o q read₂ bans₂ is₂) = not_both banned m o q (one_bans_reading k.counts u (refused m o q) (accepted banned) bans₂ bans)
  one_check s t u a b (judged c banned read bans says) (judged d forbidden read₂ bans₂ says₂) =
      judged_alike s c d banned forbidden a b
      (same_read c d (one_reading k.counts t (accepted c) (accepted d) read read₂))
      (same_read banned forbidden (one_bans_reading k.counts u (accepted banned) (accepted forbidden) bans bans₂))
      says says₂

  module _ (s : State) (certificate bans : List ℕ) (answer : Answer (Unit {0})) where
    accepted_shows : Checked k s certificate bans answer → answer ≡ accepted tt → (c : Certificate) × (banned : List Ban) × Encodes k.counts certificate c × EncodesBans k.counts bans banned × Accepts k s.protection c banned
    accepted_shows (bad_certificate l n p read is) done = not_both tt l n p (sym is ∙ done)
    accepted_shows (bad_bans c l n p read read_bans is) done = not_both tt l n p (sym is ∙ done)
    accepted_shows (judged c banned read read_bans says) done = (c, banned, read, read_bans, subst (Judged k s.protection c banned) done says)

    pub accepted_exactly : Checked k s certificate bans answer → AcceptedExactly k s certificate bans answer
    accepted_exactly checked = (
      accepted_shows checked,
      λ shown. one_check s certificate bans answer (accepted tt) checked (judged shown.0 shown.1 shown.2 shown.3 shown.4),
    )
