-- No four tapes have two codes: each of them has one reading, and no check has two answers.
use Rattle.std.proofs.Common.{◌≡◌, ℕ, List, sym, ap, ◌∙◌, subst}
use Rattle.model.specs.Answers.{Answer, accepted, refused}
use Rattle.model.specs.Kiosk.{kiosk_counts}
use Rattle.opening.proofs.Answering.{one_reading as one_opening}
use Rattle.opening.specs.Opened.{told, left}
use Rattle.register.specs.Openings.{Opens}
use Rattle.register.specs.States.{State, Kept}
use Rattle.scheme.specs.Commands.{Command}
use Rattle.scheme_tape.proofs.Law.{one_reading}
use Rattle.scheme_tape.specs.Reading.{SchemeRead}
use Rattle.checker.proofs.Answering.{retold, not_both, same_read, one_check}
use Rattle.checker.specs.Checks.{Checked}
use Rattle.kiosk_c.specs.Codes.{OpenedThenChecked, bad_opening, checked, Handed, bad_scheme, on_register, on_board, code_of, OneCode}

-- an opening has one answer, and leaves one state
module _ (k : Kept) (tape : List ℕ) (a b : Answer (Unit {0})) (s t : State) (first : Opens k tape a s) (second : Opens k tape b t) where
  same_reading : first.opened.reading ≡ second.opened.reading
  same_reading = one_opening k.counts k.limit tape first.opened.reading second.opened.reading first.opened.read second.opened.read

  same_answer : a ≡ b
  same_answer = first.opened.answered ∙ ap told same_reading ∙ sym second.opened.answered

  same_left : s ≡ t
  same_left =
      let protections : s.protection ≡ t.protection = first.opened.stands ∙ ap left same_reading ∙ sym second.opened.stands in
      let counts : s.count ≡ t.count = first.begun ∙ sym second.begun in
      λ i. record { protection = protections i; count = counts i }

module _ (commands : List Command) (opening certificate bans : List ℕ) where
  pub opened_once : (a b : Answer (Unit {0})) → OpenedThenChecked commands opening certificate bans a → OpenedThenChecked commands opening certificate bans b → a ≡ b
  opened_once a b (bad_opening s l n p opens is) (bad_opening t m o q opens₂ is₂) = is ∙ same_answer (on_board commands) opening (refused l n p) (refused m o q) s t opens opens₂ ∙ sym is₂
  opened_once a b (bad_opening s l n p opens is) (checked t opens₂ check) = (not_both tt l n p (same_answer (on_board commands) opening (refused l n p) (accepted tt) s t opens opens₂))
  opened_once a b (checked t opens check) (bad_opening s l n p opens₂ is₂) = (not_both tt l n p (same_answer (on_board commands) opening (refused l n p) (accepted tt) s t opens₂ opens))
  opened_once a b (checked s opens check) (checked t opens₂ check₂) =
      one_check (on_board commands) t certificate bans a b
      (subst (λ u. Checked (on_board commands) u certificate bans a) (same_left (on_board commands) opening (accepted tt) (accepted tt) s t opens opens₂) check)
      check₂

module _ (scheme opening certificate bans : List ℕ) where
  schemes : (x y : Answer (List Command)) → SchemeRead kiosk_counts scheme x → SchemeRead kiosk_counts scheme y → x ≡ y
  schemes = one_reading kiosk_counts scheme

  one_handed : (a b : Answer (Unit {0})) → Handed scheme opening certificate bans a → Handed scheme opening certificate bans b → a ≡ b
  one_handed a b (bad_scheme l n p read is) (bad_scheme m o q read₂ is₂) = is ∙ ap retold (schemes (refused l n p) (refused m o q) read read₂) ∙ sym is₂
  one_handed a b (bad_scheme l n p read is) (on_register commands read₂ taken) = (not_both commands l n p (schemes (refused l n p) (accepted commands) read read₂))
  one_handed a b (on_register commands read taken) (bad_scheme l n p read₂ is₂) = (not_both commands l n p (schemes (refused l n p) (accepted commands) read₂ read))
  one_handed a b (on_register commands read taken) (on_register others read₂ taken₂) =
      opened_once others opening certificate bans a b
      (subst (λ m. OpenedThenChecked m opening certificate bans a) (same_read commands others (schemes (accepted commands) (accepted others) read read₂)) taken)
      taken₂

pub one_code : OneCode
one_code scheme opening certificate bans a b first second =
    first.coded ∙ ap code_of (one_handed scheme opening certificate bans first.answer second.answer first.handed second.handed) ∙ sym second.coded
