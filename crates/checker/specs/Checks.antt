-- What a check answers: the certificate tape is read, then the ban tape, and what they say is judged.
use Rattle.std.specs.Prelude.{◌≡◌, ℕ, List, Option, MatchOption, ◌⊎◌, ◌↔◌}
use Rattle.model.specs.declared.counts.Counts.{Counts}
use Rattle.model.specs.Answers.{Answer, accepted, refused}
use Rattle.certificates.specs.declared.ban.Ban.{Ban}
use Rattle.certificates.specs.BanTapes.{BansRead, EncodesBans}
use Rattle.certificates.specs.Certificates.{Certificate}
use Rattle.certificates.specs.Reading.{CertificateRead, Encodes}
use Rattle.register.specs.States.{State, Kept}
use Rattle.checker.specs.declared.flaw.Flaw.{Flaw}
use Rattle.checker.specs.Flaws.{IsFlaw, flaw_number, flaw_place}
use Rattle.checker.specs.Judgements.{Accepts, Judged}

-- both tapes are accepted, as these
abbrev pub BothRead : Counts → (certificate bans : List ℕ) → Certificate → List Ban → Type 0
BothRead counts certificate bans c banned = CertificateRead counts certificate (accepted c) × BansRead counts bans (accepted banned)

-- the first that is not is refused by this
abbrev pub NotBothRead : Counts → (certificate bans : List ℕ) → (layer number place : ℕ) → Type 0
NotBothRead counts certificate bans layer number place =
    CertificateRead counts certificate (refused layer number place)
    ⊎ ((c : Certificate) × CertificateRead counts certificate (accepted c) × BansRead counts bans (refused layer number place))

-- A fault of a tape is the answer as it is, that of the certificate before that of the bans. Else it is what is judged.
pub data Checked (k : Kept) (s : State) (certificate bans : List ℕ) (answer : Answer (Unit {0})) : Type 0 where
  bad_certificate : (layer number place : ℕ) → CertificateRead k.counts certificate (refused layer number place) → answer ≡ refused layer number place → Checked k s certificate bans answer
  bad_bans : (c : Certificate) (layer number place : ℕ) → CertificateRead k.counts certificate (accepted c) → BansRead k.counts bans (refused layer number place) → answer ≡ refused layer number place → Checked k s certificate bans answer
  judged : (c : Certificate) (banned : List Ban) → CertificateRead k.counts certificate (accepted c) → BansRead k.counts bans (accepted banned) → Judged k s.protection c banned answer → Checked k s certificate bans answer

-- A check accepts exactly if both tapes encode something, and the certificate of the one contains the register, is closed under
-- every command and meets none of the bans of the other.
abbrev pub AcceptedExactly : Kept → State → (certificate bans : List ℕ) → Answer (Unit {0}) → Type 0
AcceptedExactly k s certificate bans answer =
    (answer ≡ accepted tt) ↔ ((c : Certificate) × (banned : List Ban) × Encodes k.counts certificate c × EncodesBans k.counts bans banned × Accepts k s.protection c banned)

-- No check has two answers.
abbrev pub OneCheck : Kept → Type 0
OneCheck k = (s : State) (certificate bans : List ℕ) (a b : Answer (Unit {0})) → Checked k s certificate bans a → Checked k s certificate bans b → a ≡ b

-- What shows for a person why a check is refused: the first flaw of what the two tapes say. There is none where a tape is
-- refused, or what they say is accepted.
abbrev pub Witnessed : Kept → State → (certificate bans : List ℕ) → Option Flaw → Type 0
Witnessed k s certificate bans result =
    MatchOption result
    ((c : Certificate) (banned : List Ban) (flaw : Flaw) → BothRead k.counts certificate bans c banned → IsFlaw k s.protection c banned flaw → ⊥)
    (λ flaw. (c : Certificate) × (banned : List Ban) × BothRead k.counts certificate bans c banned × IsFlaw k s.protection c banned flaw)

-- There is a witness exactly where the checker itself refuses, and then by its rule at its place.
abbrev pub ShowsRefusal : Kept → State → (certificate bans : List ℕ) → Option Flaw → Type 0
ShowsRefusal k s certificate bans result =
    MatchOption result
    ((number place : ℕ) → Checked k s certificate bans (refused 6 number place) → ⊥)
    (λ flaw. Checked k s certificate bans (refused 6 (flaw_number flaw) (flaw_place flaw)))
