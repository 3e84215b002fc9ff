-- The first calls since the worked small kiosk was opened by its tape, whatever its life was before.
use Rattle.std.proofs.Common.{◌≡◌, ℕ, ◌≤◌, ◌↔◌, List, ◌∷◌, length, sym, ap, refl, subst, ◌∙◌, arith}
use Rattle.model.specs.declared.counts.Counts.{Counts}
use Rattle.model.specs.Answers.{Answer, accepted, refused}
use Rattle.model.specs.Kiosk.{kiosk_counts}
use Rattle.opening.specs.Items.{Item}
use Rattle.opening.specs.Opened.{told, left}
use Rattle.opening.specs.Reading.{OpeningRead}
use Rattle.opening.specs.Worked.{kiosk_tape, kiosk_items}
use Rattle.opening.proofs.Worked.{small_kiosk}
use Rattle.certificates.specs.declared.ban.Ban.{Ban}
use Rattle.certificates.specs.BanTapes.{BansRead}
use Rattle.certificates.specs.Worked.{certificate_tape, right_1_tape, right_0_tape}
use Rattle.register.specs.Openings.{Opens}
use Rattle.register.specs.States.{State, Kept}
use Rattle.register.specs.Worked.{kiosk_opened, KioskOnBoard}
use Rattle.checker.specs.Checks.{Checked}
use Rattle.checker.specs.Worked.{RegradeKiosk}
use Rattle.checker.proofs.Worked.{worked_checks}
use Rattle.writing.specs.Writing.{full_size}
use Rattle.maker.specs.Making.{Made}
use Rattle.promise.specs.Lives.{Event, opening, check, making, Life, then}
use Rattle.promise.specs.Worked.{WorkedMakings, first_calls, Answered, FirstCalls, RegradedCalls}

-- With the kiosk's scales, and room for the two rights, the tape opens exactly this.
module _ (k : Kept) (counts : k.counts ≡ kiosk_counts) (enough : 2 ≤ k.limit) where
  abbrev Reads : (reading : Answer (List Item)) → Counts → Type 0
  Reads reading c = OpeningRead c k.limit kiosk_tape reading ↔ (reading ≡ accepted kiosk_items)

  reads : (reading : Answer (List Item)) → Reads reading k.counts
  reads reading = subst (Reads reading) (sym counts) (small_kiosk.opens k.limit enough reading)

  opened_here : Opens k kiosk_tape (accepted tt) kiosk_opened
  opened_here = record {
    opened = record { reading = accepted kiosk_items; read = (reads (accepted kiosk_items)).1 refl; answered = refl; stands = sym small_kiosk.state };
    begun = refl;
  }

  opens : (answer : Answer (Unit {0})) (s : State) → Opens k kiosk_tape answer s ↔ ((answer ≡ accepted tt) × (s ≡ kiosk_opened))
  opens answer s = (
    λ o.
        let reading = (reads o.opened.reading).0 o.opened.read in
        let protection = o.opened.stands ∙ ap left reading ∙ small_kiosk.state in
        (o.opened.answered ∙ ap told reading, λ i. record { protection = protection i; count = o.begun i }),
    λ is.
        subst (λ a. Opens k kiosk_tape a s) (sym is.0)
        (subst (λ (t : State). Opens k kiosk_tape (accepted tt) t) (sym is.1) opened_here),
  )

module _ (makings : WorkedMakings) (k : Kept) (on : KioskOnBoard k) where
  enough : 2 ≤ k.limit
  enough = rw on.board (omega arith)

  module _ (es : List Event) (s : State) (opened kept met : Answer (Unit {0})) (banned made : Answer ℕ) (buffer left : List ℕ) (large : full_size ≤ length buffer) where
    abbrev Calls : (after : List ℕ) → Type 0
    Calls after = Life k (first_calls opened kept met banned made buffer left after es) s

    abbrev Told : Type 0
    Told = Answered opened kept met banned made buffer left s

    still_large : left ≡ buffer → full_size ≤ length left
    still_large same = subst (λ (b : List ℕ). full_size ≤ length b) (sym same) large

    -- in such calls each state is the one that was opened, so each answers as it does there
    told_then : (after : List ℕ) → Calls after → Told
    told_then after (then _ (then _ (then _ (then _ (then _ life opening_is) kept_is) met_is) banned_is) made_is) =
        let start = (opens k on.counts enough opened _).0 opening_is in
        let second = kept_is.1 ∙ start.1 in
        let third = met_is.1 ∙ second in
        let fourth = banned_is.1 ∙ third in
        let refusal = (makings.banned k on buffer large banned left).0 (subst (λ (t : State). Made k t right_0_tape buffer banned left) third banned_is.0) in (
          start.0,
          (worked_checks.kept k on kept).0 (subst (λ (t : State). Checked k t certificate_tape right_1_tape kept) start.1 kept_is.0),
          (worked_checks.met k on met).0 (subst (λ (t : State). Checked k t certificate_tape right_0_tape met) second met_is.0),
          refusal.0,
          refusal.1,
          (makings.made k on left (still_large refusal.1) made).0 (after, subst (λ (t : State). Made k t right_1_tape left made after) fourth made_is.0),
          made_is.1 ∙ fourth,
        )

    -- and calls that answer so may come one after the other
    called : {before : State} → Life k es before → Told → (after : List ℕ) × Calls after
    called life is =
        let making_is = (makings.made k on left (still_large is.4) made).1 is.5 in
        let opened_is = then {after = kiosk_opened} (opening kiosk_tape opened) life ((opens k on.counts enough opened kiosk_opened).1 (is.0, refl)) in
        let kept_is = then {after = kiosk_opened} (check certificate_tape right_1_tape kept) opened_is ((worked_checks.kept k on kept).1 is.1, refl) in
        let met_is = then {after = kiosk_opened} (check certificate_tape right_0_tape met) kept_is ((worked_checks.met k on met).1 is.2, refl) in
        let banned_is = then {after = kiosk_opened} (making right_0_tape buffer banned left) met_is ((makings.banned k on buffer large banned left).1 (is.3, is.4), refl) in
        (making_is.0, then (making right_1_tape left made making_is.0) banned_is (making_is.1, is.6))

  pub first : FirstCalls k
  first es before s opened kept met banned made buffer left life large = (
    λ (after, calls). told_then es s opened kept met banned made buffer left large after calls,
    λ is. called es s opened kept met banned made buffer left large life is,
  )

module _ (k : Kept) (on : RegradeKiosk k) (enough : 2 ≤ k.limit) where
  refused_then : (es : List Event) (s : State) (bans : List ℕ) (banned : List Ban) (opened checked : Answer (Unit {0})) → BansRead k.counts bans (accepted banned) → Life k (check certificate_tape bans checked ∷ opening kiosk_tape opened ∷ es) s → (opened ≡ accepted tt) × (checked ≡ refused 6 18 0) × (s ≡ kiosk_opened)
  refused_then es s bans banned opened checked lawful (then _ (then _ life opening_is) check_is) =
      let start = (opens k on.counts enough opened _).0 opening_is in (
        start.0,
        (worked_checks.escaped k on bans banned lawful checked).0 (subst (λ (t : State). Checked k t certificate_tape bans checked) start.1 check_is.0),
        check_is.1 ∙ start.1,
      )

  pub regraded : RegradedCalls k
  regraded es before s bans banned opened checked life lawful = (
    refused_then es s bans banned opened checked lawful,
    λ is.
        then (check certificate_tape bans checked)
        (then {after = kiosk_opened} (opening kiosk_tape opened) life ((opens k on.counts enough opened kiosk_opened).1 (is.0, refl)))
        ((worked_checks.escaped k on bans banned lawful checked).1 is.1, is.2),
  )
