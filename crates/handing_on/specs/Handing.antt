-- What a making and a check hand on.
use Rattle.std.specs.Prelude.{◌≡◌, ℕ, List, length, take}
use Rattle.model.specs.Answers.{accepted}
use Rattle.certificates.specs.Certificates.{Certificate}
use Rattle.certificates.specs.Reading.{CertificateRead}
use Rattle.register.specs.States.{State, Kept}
use Rattle.checker.specs.Checks.{Checked}
use Rattle.maker.specs.Making.{Made}

-- The check accepts the tape, which lists this certificate.
pub record Accepted (k : Kept) (s : State) (certificate bans : List ℕ) (c : Certificate) : Type 0 where
  pub checked : Checked k s certificate bans (accepted tt)
  pub lists : CertificateRead k.counts certificate (accepted c)

-- The making leaves this tape at the front of the buffer and is answered by its length. The tape lists this certificate.
pub record HandedOn (k : Kept) (s : State) (bans buffer tape : List ℕ) (c : Certificate) : Type 0 where
  pub after : List ℕ
  pub made : Made k s bans buffer (accepted (length tape)) after
  pub front : tape ≡ take (length tape) after
  pub lists : CertificateRead k.counts tape (accepted c)
