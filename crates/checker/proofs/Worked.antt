-- The checks of the worked small kiosk, by computing.
use Rattle.std.proofs.Common.{◌≡◌, ℕ, zero, suc, ◌<◌, ◌≤◌, ◌⊎◌, Bool, true, false, eqb, List, [], ◌∷◌, Some, None, slice_get, sym, ap, refl, subst, ◌∙◌, ⊎_elim, arith}
use Rattle.std.proofs.lemmas.Bool.{ne_eqb, and_right, le-ltb}
use Rattle.std.proofs.lemmas.Option.{none-some, same_Some}
use Rattle.model.specs.declared.counts.Counts.{Counts}
use Rattle.model.specs.declared.kind.Kind.TheVariants.{Subject, Object}
use Rattle.model.specs.declared.stamp.Stamp.{Stamp}
use Rattle.model.specs.Answers.{Answer, accepted, refused}
use Rattle.model.specs.Kiosk.{kiosk_counts, kiosk_covers}
use Rattle.model.specs.Masks.{has, with_right}
use Rattle.model.specs.Stamps.{stamp_of}
use Rattle.scheme.specs.Commands.{Command}
use Rattle.scheme_tape.specs.Reading.{SchemeRead}
use Rattle.scheme_tape.proofs.Law.{one_reading as one_scheme}
use Rattle.opening.specs.Worked.{kiosk_state}
use Rattle.certificates.specs.declared.ban.Ban.{Ban}
use Rattle.certificates.specs.BanTapes.{BansRead}
use Rattle.certificates.specs.Bans.{Meets}
use Rattle.certificates.specs.Reading.{CertificateRead}
use Rattle.certificates.specs.Worked.{certificate_tape, right_1_tape, right_0_tape, right_1_ban, right_0_ban, kiosk_certificate}
use Rattle.certificates.proofs.Worked.{small_kiosk, small_kiosk_bans}
use Rattle.castings.specs.declared.escape.Breach.TheVariants.{Row}
use Rattle.castings.specs.declared.escape.Escape.{Escape}
use Rattle.castings.specs.Castings.{Casts}
use Rattle.castings.specs.Closure.{Closed}
use Rattle.castings.specs.Escapes.{IsEscape, casting_of}
use Rattle.register.specs.States.{Kept}
use Rattle.register.specs.Worked.{kiosk_scheme, hand_on, make_card, take_away, kiosk_commands, kiosk_opened, KioskOnBoard}
use Rattle.register.proofs.Worked.{worked_kiosk}
use Rattle.checker.specs.Checks.{Checked, judged}
use Rattle.checker.specs.Containing.{Contains}
use Rattle.checker.specs.Judgements.{ClosedUnderAll, NotClosed, BanMet, Judged, not_closed, ban_met}
use Rattle.checker.specs.Worked.{regrade_scheme, regrade, RegradeKiosk, Answers, WorkedChecks}
use Rattle.checker.proofs.Answering.{one_check}
use Rattle.checker.proofs.Closing.{closed_of, closed_by}
use Rattle.checker.proofs.Computing.{holds_of, contained_by, unmet_of, unmet_by}

abbrev pub grade_3 : Stamp
grade_3 = stamp_of Subject (Some 3) None None None

abbrev pub grade_1 : Stamp
grade_1 = stamp_of Subject (Some 1) None None None

abbrev pub thing : Stamp
thing = stamp_of Object None None None None

-- ---- it is contained

holds : holds_of kiosk_certificate kiosk_state ≡ true
holds = refl

no_entry : (n : ℕ) → 3 ≤ n → kiosk_state.entry n ≡ None
no_entry n past = rw (ne_eqb n 2 (λ e. omega arith), ne_eqb n 1 (λ e. omega arith), ne_eqb n 0 (λ e. omega arith)) refl

no_cell : (n o : ℕ) → (3 ≤ n) ⊎ (3 ≤ o) → kiosk_state.cells n o ≡ 0
no_cell n o =
    ⊎_elim
    (λ (row : 3 ≤ n). rw (ne_eqb n 0 (λ e. omega arith)) refl)
    (λ (column : 3 ≤ o). rw (ne_eqb o 1 (λ e. omega arith), ne_eqb o 2 (λ e. omega arith), and_right (eqb n 0) false refl) refl)

pub contains : Contains kiosk_certificate kiosk_state
contains = contained_by kiosk_certificate kiosk_state holds no_entry no_cell

-- ---- it is closed under the kiosk's commands

hand_on_closed : closed_of kiosk_covers kiosk_certificate hand_on ≡ true
unfolding has with_right
hand_on_closed = refl

make_card_closed : closed_of kiosk_covers kiosk_certificate make_card ≡ true
unfolding has
make_card_closed = refl

take_away_closed : closed_of kiosk_covers kiosk_certificate take_away ≡ true
unfolding has
take_away_closed = refl

closed_at : (number : ℕ) (m : Command) → slice_get kiosk_commands number ≡ Some m → Closed kiosk_covers kiosk_certificate m
closed_at zero m is = subst (Closed kiosk_covers kiosk_certificate) (same_Some hand_on m is) (closed_by kiosk_covers kiosk_certificate hand_on (omega arith) refl hand_on_closed)
closed_at (suc zero) m is = subst (Closed kiosk_covers kiosk_certificate) (same_Some make_card m is) (closed_by kiosk_covers kiosk_certificate make_card (omega arith) refl make_card_closed)
closed_at (suc (suc zero)) m is = subst (Closed kiosk_covers kiosk_certificate) (same_Some take_away m is) (closed_by kiosk_covers kiosk_certificate take_away (omega arith) refl take_away_closed)
closed_at (suc (suc (suc number))) m is = absurd (none-some m is)

-- ---- the bans

right_1_unmet : unmet_of kiosk_certificate right_1_ban ≡ true
unfolding has
right_1_unmet = refl

pub right_0_met : Meets kiosk_certificate right_0_ban
unfolding has
right_0_met = (grade_1, thing, record { row = refl; column = refl; fit = refl; held = refl })

pub none_met : (number : ℕ) → BanMet kiosk_certificate (right_1_ban ∷ []) number → ⊥
none_met zero met = unmet_by kiosk_certificate right_1_ban right_1_unmet (subst (Meets kiosk_certificate) (sym (same_Some right_1_ban met.0 met.1)) met.2)
none_met (suc number) met = none-some met.0 met.1

-- ---- where a card may become one of grade 1

abbrev regraded : Escape
regraded = record { stamps = Some grade_3 ∷ None ∷ None ∷ []; breach = Row 0 grade_1 1 }

regraded_casts : Casts kiosk_certificate regrade (casting_of regraded)
unfolding has
regraded_casts zero = refl
regraded_casts (suc zero) = refl
regraded_casts (suc (suc zero)) = refl
regraded_casts (suc (suc (suc i))) = rw (le-ltb (suc (suc (suc i))) 1 (omega arith)) refl

escapes : (covers : (k a b : ℕ) → Bool) → IsEscape covers kiosk_certificate regrade regraded
unfolding has
escapes covers = record {
  casts = regraded_casts;
  passes = refl;
  breach = record {
    old = grade_3;
    new = grade_1;
    moves = record { kept = refl; from = refl; to = refl };
    listed = refl;
    had = refl;
    lost = refl;
  };
}

-- ---- what is judged of it

pub no_lower : (P : ℕ → Type 0) (m : ℕ) → m < 0 → P m → ⊥
no_lower P m lt h = omega arith

module _ (k : Kept) (covers : k.covers ≡ kiosk_covers) (commands : k.commands ≡ kiosk_commands) where
  pub closed : ClosedUnderAll k kiosk_certificate
  closed number m is =
      subst (λ f. Closed f kiosk_certificate m) (sym covers)
      (closed_at number m (ap (λ l. slice_get l number) (sym commands) ∙ is))

  kept_judged : Judged k kiosk_state kiosk_certificate (right_1_ban ∷ []) (accepted tt)
  kept_judged = record { contains = contains; closed = closed; unmet = none_met }

  met_judged : Judged k kiosk_state kiosk_certificate (right_0_ban ∷ []) (refused 6 19 0)
  met_judged = (refl, ban_met refl contains closed ((right_0_ban, refl, right_0_met), no_lower (BanMet kiosk_certificate (right_0_ban ∷ []))))

escaped_judged : (k : Kept) (bans : List Ban) → k.commands ≡ regrade ∷ [] → Judged k kiosk_state kiosk_certificate bans (refused 6 18 0)
escaped_judged k bans commands =
    (refl, not_closed refl contains ((regrade, ap (λ l. slice_get l 0) commands, regraded, escapes k.covers), no_lower (NotClosed k kiosk_certificate)))

-- ---- from the tapes

pub kiosk_commands_are : (k : Kept) → KioskOnBoard k → k.commands ≡ kiosk_commands
kiosk_commands_are k on =
    let one : accepted k.commands ≡ accepted kiosk_commands = (worked_kiosk.scheme (accepted k.commands)).0 (subst (λ (c : Counts). SchemeRead c kiosk_scheme (accepted k.commands)) on.counts on.scheme) in
    cc

pub regrade_read : SchemeRead kiosk_counts regrade_scheme (accepted (regrade ∷ []))
unfolding has
regrade_read = (refl, refl)

regrade_commands_are : (k : Kept) → RegradeKiosk k → k.commands ≡ regrade ∷ []
regrade_commands_are k on =
    let read : SchemeRead kiosk_counts regrade_scheme (accepted k.commands) = subst (λ (c : Counts). SchemeRead c regrade_scheme (accepted k.commands)) on.counts on.scheme in
    let one : accepted k.commands ≡ accepted (regrade ∷ []) = one_scheme kiosk_counts regrade_scheme (accepted k.commands) (accepted (regrade ∷ [])) read regrade_read in
    cc

answered : (k : Kept) (bans : List ℕ) (banned : List Ban) (expected : Answer (Unit {0})) → k.counts ≡ kiosk_counts → BansRead kiosk_counts bans (accepted banned) → Judged k kiosk_state kiosk_certificate banned expected → Answers k bans expected
answered k bans banned expected counts read says answer =
    let here : Checked k kiosk_opened certificate_tape bans expected =
    judged kiosk_certificate banned
    (subst (λ (c : Counts). CertificateRead c certificate_tape (accepted kiosk_certificate)) (sym counts) ((small_kiosk (accepted kiosk_certificate)).1 refl))
    (subst (λ (c : Counts). BansRead c bans (accepted banned)) (sym counts) read)
    says in (
      λ checked. one_check k kiosk_opened certificate_tape bans answer expected checked here,
      λ is. subst (Checked k kiosk_opened certificate_tape bans) (sym is) here,
    )

pub worked_checks : WorkedChecks
worked_checks = record {
  kept = λ k on. answered k right_1_tape (right_1_ban ∷ []) (accepted tt) on.counts ((small_kiosk_bans.right_1 (accepted (right_1_ban ∷ []))).1 refl) (kept_judged k on.covers (kiosk_commands_are k on));
  met = λ k on. answered k right_0_tape (right_0_ban ∷ []) (refused 6 19 0) on.counts ((small_kiosk_bans.right_0 (accepted (right_0_ban ∷ []))).1 refl) (met_judged k on.covers (kiosk_commands_are k on));
  escaped = λ k on bans banned read. answered k bans banned (refused 6 18 0) on.counts (subst (λ (c : Counts). BansRead c bans (accepted banned)) on.counts read) (escaped_judged k banned (regrade_commands_are k on));
}
