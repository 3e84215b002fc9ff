-- What an opening that was read shows: it is accepted exactly if its tape encodes something, and then exactly that stands.
use Rattle.std.proofs.Common.{◌≡◌, ℕ, true, false, List, Ok, Err, Result, is_err, sym, ap, ◌∙◌, subst}
use Rattle.model.specs.declared.counts.Counts.{Counts}
use Rattle.model.specs.declared.fault.Fault.{Fault}
use Rattle.model.specs.Answers.{Answer, accepted, refused, refusal, answer}
use Rattle.protection.specs.Sound.{Sound}
use Rattle.protection.specs.States.{Protection, nothing}
use Rattle.tapes.proofs.Law.{one_answer, accepted_as_encoded}
use Rattle.opening.specs.Items.{Item, opened}
use Rattle.opening.specs.Opened.{told, left, Opened, Holds, TakenIn, Exactly, OpenedExactly}
use Rattle.opening.specs.Reading.{Encodes, OpeningRead, OneReading}
use Rattle.opening.proofs.Exact.{opened_exact}
use Rattle.opening.proofs.Forming.{opening_encoding}
use Rattle.opening.proofs.Language.{opening_language}
use Rattle.protection.proofs.Sound.{sound_nothing}
use Rattle.opening.proofs.Soundness.{opened_sound}

pub one_reading : (c : Counts) (limit : ℕ) → OneReading c limit
one_reading c limit = one_answer (opening_language c limit) (Encodes c limit) (opening_encoding c limit)

module _ (c : Counts) (limit : ℕ) (tape : List ℕ) where
  -- after a refusal all is emptied
  pub refused_opened : (r : Result (Unit {0}) Fault) (state after : Protection) → is_err r ≡ true → TakenIn c limit tape (answer (λ _. tt) r) state → after ≡ nothing → Opened c limit tape (answer (λ _. tt) r) after
  refused_opened (Ok done) state after bad taken empty = cc
  refused_opened (Err f) state after bad taken empty = by taken.reading taken.read taken.answered
    where
      by : (reading : Answer (List Item)) → OpeningRead c limit tape reading → refusal f ≡ told reading → Opened c limit tape (refusal f) after
      by (accepted items) read is = cc
      by (refused layer number place) read is = record { reading = refused layer number place; read = read; answered = is; stands = empty }

  -- else all stays
  pub accepted_opened : (r : Result (Unit {0}) Fault) (state : Protection) → is_err r ≡ false → TakenIn c limit tape (answer (λ _. tt) r) state → Opened c limit tape (answer (λ _. tt) r) state
  accepted_opened (Err f) state good taken = cc
  accepted_opened (Ok done) state good taken = by taken.reading taken.read taken.answered taken.holds
    where
      by : (reading : Answer (List Item)) → OpeningRead c limit tape reading → accepted tt ≡ told reading → Holds reading state → Opened c limit tape (accepted tt) state
      by (accepted items) read is holds = record { reading = accepted items; read = read; answered = is; stands = holds }
      by (refused layer number place) read is holds = cc

module _ (c : Counts) (limit : ℕ) (tape : List ℕ) (answer : Answer (Unit {0})) (state : Protection) where
  encoded_by : (reading : Answer (List Item)) → OpeningRead c limit tape reading → answer ≡ told reading → answer ≡ accepted tt → (items : List Item) × Encodes c limit tape items
  encoded_by (accepted items) read is done = (items, read)
  encoded_by (refused layer number place) read is done = cc

  pub opened_exactly : Opened c limit tape answer state → OpenedExactly c limit tape answer state
  opened_exactly o = record {
    only = encoded_by o.reading o.read o.answered;
    each = λ items encodes.
        let same : o.reading ≡ accepted items = (accepted_as_encoded (opening_language c limit) (Encodes c limit) (opening_encoding c limit) tape o.reading o.read items).1 encodes in
        let state_is : state ≡ opened items = o.stands ∙ ap left same in
        (o.answered ∙ ap told same, state_is, subst (Exactly items) (sym state_is) (opened_exact c limit items encodes.2));
  }

  left_sound : (reading : Answer (List Item)) → OpeningRead c limit tape reading → Sound (left reading)
  left_sound (accepted items) read = opened_sound c limit items read.2
  left_sound (refused layer number place) read = sound_nothing

  pub state_sound : Opened c limit tape answer state → Sound state
  state_sound o = subst Sound (sym o.stands) (left_sound o.reading o.read)
