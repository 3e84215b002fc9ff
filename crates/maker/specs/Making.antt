-- What a making answers, and what it leaves in the buffer: the ban tape is read, then the buffer is looked at, and then the least
-- certificate is written, if one would be accepted.
use Rattle.std.specs.Prelude.{◌≡◌, ℕ, ◌<◌, ◌≤◌, ◌↔◌, List, ◌++◌, length, take, drop}
use Rattle.model.specs.Answers.{Answer, accepted, refused}
use Rattle.protection.specs.States.{Protection}
use Rattle.certificates.specs.declared.ban.Ban.{Ban}
use Rattle.certificates.specs.BanTapes.{BansRead}
use Rattle.certificates.specs.Certificates.{Certificate}
use Rattle.certificates.specs.Reading.{CertificateRead, Encodes}
use Rattle.register.specs.States.{State, Kept}
use Rattle.checker.specs.Checks.{Checked}
use Rattle.checker.specs.Judgements.{Accepts, MeetsNone}
use Rattle.writing.specs.Writing.{written, full_size}
use Rattle.maker.specs.Comparing.{Above}
use Rattle.maker.specs.Least.{Least}

-- No certificate that a tape lists would be accepted.
abbrev pub NoneAccepted : Kept → Protection → List Ban → Type 0
NoneAccepted k p bans = (tape : List ℕ) (c : Certificate) → Encodes k.counts tape c → Accepts k p c bans → ⊥

-- The tape lists the least certificate, which meets none of the bans: its stamps first, one order each, and then what is allowed on
-- each pair where that is not empty, by the one's number and then the other's. To read the tape gives the certificate back.
pub record HandsOut (k : Kept) (p : Protection) (bans : List Ban) (c : Certificate) (tape : List ℕ) : Type 0 where
  pub least : Least k p c
  pub unmet : MeetsNone c bans
  pub bytes : tape ≡ written c
  pub back : CertificateRead k.counts tape (accepted c)

-- Such a tape stands at the front of the buffer, as many bytes as are said; the rest is as it was.
pub record HandedInto (k : Kept) (p : Protection) (bans : List Ban) (before : List ℕ) (n : ℕ) (after : List ℕ) : Type 0 where
  pub c : Certificate
  pub tape : List ℕ
  pub hands : HandsOut k p bans c tape
  pub long : n ≡ length tape
  pub bytes : after ≡ tape ++ drop n before

-- A making of a certificate against these bans, into a buffer that held this.
pub data Made (k : Kept) (s : State) (bans buffer : List ℕ) (answer : Answer ℕ) (after : List ℕ) : Type 0 where
  -- a fault of the ban tape is the answer as it is
  bad_bans : (layer number place : ℕ) → BansRead k.counts bans (refused layer number place) → answer ≡ refused layer number place → after ≡ buffer → Made k s bans buffer answer after
  -- 20 where the buffer is under 5,312 bytes
  too_small : (banned : List Ban) → BansRead k.counts bans (accepted banned) → length buffer < full_size → answer ≡ refused 6 20 0 → after ≡ buffer → Made k s bans buffer answer after
  -- 21 where no certificate would be accepted
  none : (banned : List Ban) → BansRead k.counts bans (accepted banned) → full_size ≤ length buffer → NoneAccepted k s.protection banned → answer ≡ refused 6 21 0 → after ≡ buffer → Made k s bans buffer answer after
  -- Else the least certificate is handed into the buffer, and the answer is how many bytes its tape has.
  made : (banned : List Ban) (n : ℕ) → BansRead k.counts bans (accepted banned) → full_size ≤ length buffer → HandedInto k s.protection banned buffer n after → answer ≡ accepted n → Made k s bans buffer answer after

-- it hands out a certificate, and does not refuse
abbrev pub Handed : Answer ℕ → Type 0
Handed answer = (n : ℕ) × (answer ≡ accepted n)

-- No making has two answers: the order of stamps is free, but not the length.
abbrev pub OneMaking : Kept → Type 0
OneMaking k = (s : State) (bans buffer : List ℕ) (a b : Answer ℕ) (x y : List ℕ) → Made k s bans buffer a x → Made k s bans buffer b y → a ≡ b

-- The certificate that the one tape lists says all that the certificate of the other says.
pub record SaysAll (k : Kept) (larger smaller : List ℕ) : Type 0 where
  pub d : Certificate
  pub c : Certificate
  pub read : CertificateRead k.counts larger (accepted d)
  pub read_too : CertificateRead k.counts smaller (accepted c)
  pub above : Above d c

-- What makings have to do with checks, on a register as it stands.
pub record MakesLeast (k : Kept) (s : State) : Type 0 where
  -- With lawful bans and a buffer of at least 5,312 bytes, a certificate is handed out exactly if a check with these bans would
  -- accept one.
  pub exactly : (bans buffer after : List ℕ) (banned : List Ban) (answer : Answer ℕ) → BansRead k.counts bans (accepted banned) → full_size ≤ length buffer → Made k s bans buffer answer after → Handed answer ↔ ((certificate : List ℕ) × Checked k s certificate bans (accepted tt))
  -- That check accepts the one that is made,
  pub accepted_too : (bans buffer after : List ℕ) (n : ℕ) → Made k s bans buffer (accepted n) after → Checked k s (take n after) bans (accepted tt)
  -- and each other that it accepts says all that the made one says.
  pub least : (bans buffer after : List ℕ) (n : ℕ) (certificate : List ℕ) → Made k s bans buffer (accepted n) after → Checked k s certificate bans (accepted tt) → SaysAll k certificate (take n after)
