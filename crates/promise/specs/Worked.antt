-- The worked small kiosk: what makings answer in it, and all that is proved of it together, from the bytes of its tapes.
use Rattle.std.specs.Prelude.{◌≡◌, ℕ, ◌≤◌, ◌↔◌, List, ◌∷◌, length}
use Rattle.model.specs.Answers.{Answer, accepted, refused}
use Rattle.opening.specs.Worked.{kiosk_tape, SmallKiosk as SmallOpening}
use Rattle.certificates.specs.declared.ban.Ban.{Ban}
use Rattle.certificates.specs.BanTapes.{BansRead}
use Rattle.certificates.specs.Worked.{certificate_tape, right_1_tape, right_0_tape, SmallKiosk, SmallKioskBans}
use Rattle.register.specs.States.{State, Kept}
use Rattle.register.specs.Worked.{kiosk_opened, KioskOnBoard, WorkedKiosk}
use Rattle.checker.specs.Worked.{RegradeKiosk, WorkedChecks}
use Rattle.writing.specs.Writing.{full_size}
use Rattle.maker.specs.Making.{Made}
use Rattle.promise.specs.Lives.{Event, opening, check, making, Life}

-- In the kiosk that was just opened, a making with this ban tape, into any buffer of full size, is answered by this and nothing else.
abbrev pub Hands : Kept → (bans : List ℕ) → (length : ℕ) → Type 0
Hands k bans n = (buffer : List ℕ) → full_size ≤ length buffer → (answer : Answer ℕ) → ((after : List ℕ) × Made k kiosk_opened bans buffer answer after) ↔ (answer ≡ accepted n)

-- It is refused by that rule, the buffer is as it was, and nothing else can be.
abbrev pub Refuses : Kept → (bans : List ℕ) → (rule : ℕ) → Type 0
Refuses k bans rule = (buffer : List ℕ) → full_size ≤ length buffer → (answer : Answer ℕ) (after : List ℕ) → Made k kiosk_opened bans buffer answer after ↔ ((answer ≡ refused 6 rule 0) × (after ≡ buffer))

-- What is made in a kiosk that was just opened, ban by ban.
pub record WorkedMakings : Type 0 where
  -- no card of grade 1 ever needs right 1 on an entry of grade 1: a certificate of 33 bytes says so
  pub made : (k : Kept) → KioskOnBoard k → Hands k right_1_tape 33
  -- but it needs right 0 on an entry of no grade, whatever certificate there is
  pub banned : (k : Kept) → KioskOnBoard k → Refuses k right_0_tape 21

module _ (opened kept met : Answer (Unit {0})) (banned made : Answer ℕ) (buffer left : List ℕ) where
  -- The kiosk is opened by its tape. Its certificate tape is checked with a ban that it does not meet, and with one that it meets. A
  -- making is handed the ban that is met, and then one the other ban, with the buffer as the first left it.
  abbrev pub first_calls : (after : List ℕ) → List Event → List Event
  first_calls after es =
      making right_1_tape left made after
      ∷ making right_0_tape buffer banned left
      ∷ check certificate_tape right_0_tape met
      ∷ check certificate_tape right_1_tape kept
      ∷ opening kiosk_tape opened
      ∷ es

  -- what they answer; the refused making leaves the buffer as it was, and the kiosk is as it was opened
  abbrev pub Answered : State → Type 0
  Answered s = (opened ≡ accepted tt) × (kept ≡ accepted tt) × (met ≡ refused 6 19 0) × (banned ≡ refused 6 21 0) × (left ≡ buffer) × (made ≡ accepted 33) × (s ≡ kiosk_opened)

-- However the kiosk's life went so far, these calls may come next, and answer this and nothing else.
abbrev pub FirstCalls : Kept → Type 0
FirstCalls k =
    (es : List Event) (before s : State) (opened kept met : Answer (Unit {0})) (banned made : Answer ℕ) (buffer left : List ℕ)
    → Life k es before
    → full_size ≤ length buffer
    → ((after : List ℕ) × Life k (first_calls opened kept met banned made buffer left after es) s) ↔ Answered opened kept met banned made buffer left s

-- The same of a kiosk where any card may become one of grade 1: it is opened by that tape, and the certificate tape is checked with
-- any lawful bans. The certificate contains what stands then, but it is not closed.
abbrev pub RegradedCalls : Kept → Type 0
RegradedCalls k =
    (es : List Event) (before s : State) (bans : List ℕ) (banned : List Ban) (opened checked : Answer (Unit {0}))
    → Life k es before
    → BansRead k.counts bans (accepted banned)
    → Life k (check certificate_tape bans checked ∷ opening kiosk_tape opened ∷ es) s
    ↔ ((opened ≡ accepted tt) × (checked ≡ refused 6 18 0) × (s ≡ kiosk_opened))

-- All rows of the worked kiosk that are proved.
pub record WorkedRows : Type 0 where
  -- what the opening tape lists, and where it is refused for want of room
  pub opening : SmallOpening
  -- what the scheme tape says, and what the requests of a kiosk that was just opened answer and leave
  pub requests : WorkedKiosk
  -- what the certificate tape and the ban tapes list
  pub certificate : SmallKiosk
  pub bans : SmallKioskBans
  -- what checks and makings answer
  pub checks : WorkedChecks
  pub makings : WorkedMakings
  -- and one call after the other; also by the scheme of one command, in any store with room for the two rights
  pub calls : (k : Kept) → KioskOnBoard k → FirstCalls k
  pub regraded : (k : Kept) → RegradeKiosk k → 2 ≤ k.limit → RegradedCalls k
