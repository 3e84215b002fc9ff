-- The makings of the worked small kiosk, and all that is proved of it together.
use Rattle.std.proofs.Common.{◌≡◌, ℕ, ◌≤◌, ◌↔◌, eqb, List, [], ◌∷◌, ◌++◌, length, drop, sym, refl, subst, ◌∙◌, ⊎_elim, arith}
use mathlib.Core.Path.{fun_ext}
use Rattle.std.proofs.lemmas.Bool.{cases_eq, ne_eqb, and_right}
use Rattle.model.specs.declared.counts.Counts.{Counts}
use Rattle.model.specs.Answers.{Answer, accepted, refused}
use Rattle.model.specs.Kiosk.{kiosk_counts}
use Rattle.stores.specs.Matrices.{Matrix, blank, written}
use Rattle.opening.specs.Worked.{kiosk_state}
use Rattle.opening.proofs.Worked.{small_kiosk as small_opening}
use Rattle.certificates.specs.declared.ban.Ban.{Ban}
use Rattle.certificates.specs.BanTapes.{BansRead}
use Rattle.certificates.specs.Reading.{CertificateRead}
use Rattle.certificates.specs.Worked.{right_1_tape, right_0_tape, right_1_ban, right_0_ban, kiosk_certificate, KioskReadsBans}
use Rattle.certificates.proofs.Worked.{small_kiosk, small_kiosk_bans}
use Rattle.register.specs.States.{Kept}
use Rattle.register.specs.Worked.{kiosk_opened, KioskOnBoard}
use Rattle.register.proofs.Worked.{worked_kiosk}
use Rattle.checker.specs.Judgements.{BanMet}
use Rattle.checker.proofs.Worked.{none_met, right_0_met, no_lower, worked_checks}
use Rattle.writing.specs.Writing.{items_of, items_below, written as bytes_of, full_size}
use Rattle.maker.specs.Making.{HandsOut, HandedInto, Made, none, made}
use Rattle.maker.proofs.Making.{untouched}
use Rattle.maker.proofs.OneMaking.{one_making}
use Rattle.maker.proofs.Refusing.{met}
use Rattle.promise.proofs.KioskLeast.{least}
use Rattle.promise.proofs.KioskLives.{first, regraded}
use Rattle.promise.specs.Worked.{WorkedMakings, WorkedRows}

-- two cells of a row may be written in either order
written_apart : (f : Matrix) (s o p m n : ℕ) → (o ≡ p → ⊥) → written (written f s o m) s p n ≡ written (written f s p n) s o m
written_apart f s o p m n apart =
    fun_ext (λ a. fun_ext (λ b.
    ⊎_elim
    (λ (here : b ≡ o). rw (and_right (eqb a s) (eqb b p) (ne_eqb b p (λ there. apart (sym here ∙ there)))) refl)
    (λ (other : b ≡ o → ⊥). rw (and_right (eqb a s) (eqb b o) (ne_eqb b o other)) refl)
    (cases_eq b o)))

bytes_long : length (bytes_of kiosk_certificate) ≡ 33
unfolding items_below
bytes_long = refl

read_back : CertificateRead kiosk_counts (bytes_of kiosk_certificate) (accepted kiosk_certificate)
unfolding items_below
read_back = record {
  items = items_of kiosk_certificate;
  encodes = (omega arith, refl, refl);
  makes = λ i. record { stamps = kiosk_certificate.stamps; masks = written (written_apart blank 0 2 1 0x0001 0x0002 (λ e. omega arith) i) 1 2 0x0001 };
}

module _ (k : Kept) (on : KioskOnBoard k) where
  hands_out : HandsOut k kiosk_state (right_1_ban ∷ []) kiosk_certificate (bytes_of kiosk_certificate)
  hands_out = record {
    least = least k on;
    unmet = none_met;
    bytes = refl;
    back = subst (λ (c : Counts). CertificateRead c (bytes_of kiosk_certificate) (accepted kiosk_certificate)) (sym on.counts) read_back;
  }

  bans_read : (tape : List ℕ) (bans : List Ban) → KioskReadsBans tape (accepted bans) → BansRead k.counts tape (accepted bans)
  bans_read tape bans reads = subst (λ (c : Counts). BansRead c tape (accepted bans)) (sym on.counts) ((reads (accepted bans)).1 refl)

  module _ (buffer : List ℕ) (large : full_size ≤ length buffer) where
    abbrev filled : List ℕ
    filled = bytes_of kiosk_certificate ++ drop 33 buffer

    handed_into : HandedInto k kiosk_state (right_1_ban ∷ []) buffer 33 filled
    handed_into = record { c = kiosk_certificate; tape = bytes_of kiosk_certificate; hands = hands_out; long = sym bytes_long; bytes = refl }

    kiosk_made : Made k kiosk_opened right_1_tape buffer (accepted 33) filled
    kiosk_made =
        made (right_1_ban ∷ []) 33
        (bans_read right_1_tape (right_1_ban ∷ []) small_kiosk_bans.right_1)
        large handed_into refl

    kiosk_banned : Made k kiosk_opened right_0_tape buffer (refused 6 21 0) buffer
    kiosk_banned =
        none (right_0_ban ∷ [])
        (bans_read right_0_tape (right_0_ban ∷ []) small_kiosk_bans.right_0)
        large
        (met k kiosk_state (right_0_ban ∷ []) kiosk_certificate (least k on) 0 right_0_met.0 right_0_met.1 ((right_0_ban, refl, right_0_met.2), no_lower (BanMet kiosk_certificate (right_0_ban ∷ []))))
        refl refl

    hands : (answer : Answer ℕ) → ((after : List ℕ) × Made k kiosk_opened right_1_tape buffer answer after) ↔ (answer ≡ accepted 33)
    hands answer = (
      λ (after, making). one_making k kiosk_opened right_1_tape buffer answer (accepted 33) after filled making kiosk_made,
      λ is. (filled, subst (λ a. Made k kiosk_opened right_1_tape buffer a filled) (sym is) kiosk_made),
    )

    refuses : (answer : Answer ℕ) (after : List ℕ) → Made k kiosk_opened right_0_tape buffer answer after ↔ ((answer ≡ refused 6 21 0) × (after ≡ buffer))
    refuses answer after = (
      λ making.
          let is = one_making k kiosk_opened right_0_tape buffer answer (refused 6 21 0) after buffer making kiosk_banned in
          (is, untouched k kiosk_opened right_0_tape buffer after 6 21 0 (subst (λ a. Made k kiosk_opened right_0_tape buffer a after) is making)),
      λ both.
          subst (λ b. Made k kiosk_opened right_0_tape buffer answer b) (sym both.1)
          (subst (λ a. Made k kiosk_opened right_0_tape buffer a buffer) (sym both.0) kiosk_banned),
    )

makings : WorkedMakings
makings = record { made = hands; banned = refuses }

pub worked_rows : WorkedRows
worked_rows = record {
  opening = small_opening;
  requests = worked_kiosk;
  certificate = small_kiosk;
  bans = small_kiosk_bans;
  checks = worked_checks;
  makings = makings;
  calls = first makings;
  regraded = regraded;
}
