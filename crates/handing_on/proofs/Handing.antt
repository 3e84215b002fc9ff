-- What is handed on is what the tape lists.
use Rattle.std.proofs.Common.{ℕ, List, Ok, Err, Result, take, MatchResult, refl, sym, ap, subst}
use Rattle.model.specs.Answers.{accepted, refused, refusal, answer}
use Rattle.model.specs.declared.fault.Fault.{Fault}
use Rattle.certificates.specs.declared.certificate.Certificate.{Certificate as Stored}
use Rattle.certificates.specs.Certificates.{Certificate}
use Rattle.certificates.specs.Reading.{CertificateRead}
use Rattle.certificates.specs.Views.{certificate_of}
use Rattle.certificates.proofs.Readings.{one_reading}
use Rattle.register.specs.States.{State, Kept}
use Rattle.checker.specs.Checks.{Checked, bad_certificate}
use Rattle.checker.proofs.Answering.{not_both}
use Rattle.maker.specs.Making.{Made}
use Rattle.maker.proofs.Making.{handed_out, untouched}
use Rattle.handing_on.specs.Handing.{Accepted, HandedOn}

module _ (k : Kept) (s : State) where
  -- an accepted certificate is read again; were its tape refused, so would the check be
  pub read_back : (certificate bans : List ℕ) (r : Result Stored Fault) → Checked k s certificate bans (accepted tt) → CertificateRead k.counts certificate (answer certificate_of r) → MatchResult r (λ c. Accepted k s certificate bans (certificate_of c)) (λ fault. Checked k s certificate bans (refusal fault))
  read_back certificate bans (Ok c) checked read = record { checked = checked; lists = read }
  read_back certificate bans (Err fault) checked read = bad_certificate _ _ _ read refl

  module _ (bans buffer : List ℕ) where
    -- a refused making leaves the buffer as it was
    pub left_refused : {l r p : ℕ} {after : List ℕ} → Made k s bans buffer (refused l r p) after → Made k s bans buffer (refused l r p) buffer
    left_refused {l} {r} {p} {after} m = subst (Made k s bans buffer (refused l r p)) (untouched k s bans buffer after l r p m) m

    -- a tape that was made is not refused when it is read,
    pub lawful : {n l r p : ℕ} {after : List ℕ} → Made k s bans buffer (accepted n) after → CertificateRead k.counts (take n after) (refused l r p) → ⊥
    lawful {n} {l} {r} {p} {after = after} m read =
        let out = handed_out k s bans buffer after n m in
        not_both out.c l r p (one_reading k.counts (take n after) (refused l r p) (accepted out.c) read out.hands.back)

    -- and what is read is handed on
    pub handed : {n : ℕ} {after : List ℕ} {c : Certificate} → Made k s bans buffer (accepted n) after → CertificateRead k.counts (take n after) (accepted c) → HandedOn k s bans buffer (take n after) c
    handed {n} {after} m read =
        let long = sym (handed_out k s bans buffer after n m).long in
        record { after = after; made = subst (λ n. Made k s bans buffer (accepted n) after) long m; front = ap (λ n. take n after) long; lists = read }
