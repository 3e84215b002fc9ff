-- What a check has accepted since the last opening is accepted for good, so the lasting promise is kept.
use Rattle.std.proofs.Common.{◌≡◌, ℕ, true, false, List, [], ◌∷◌, sym, refl, subst}
use Rattle.model.specs.Answers.{accepted}
use Rattle.model.specs.declared.scales.Scales.{Ghosts as OfScales}
use Rattle.rulings.specs.Questions.{held}
use Rattle.rulings.specs.declared.question.Question.{Question}
use Rattle.rulings.specs.declared.ruling.Ruling.{Ghosts as OfRuling}
use Rattle.stores.specs.declared.store.CellStore.{Ghosts as OfStore}
use Rattle.certificates.specs.declared.ban.Ban.{Ban}
use Rattle.certificates.specs.Certificates.{Certificate}
use Rattle.register.specs.declared.register.Register.{Register}
use Rattle.register.specs.States.{State, Kept, empty_state}
use Rattle.register.specs.Views.{kept_by}
use Rattle.checker.specs.Checks.{BothRead, Checked}
use Rattle.checker.specs.Judgements.{Accepts}
use Rattle.checker.proofs.Answering.{accepted_exactly}
use Rattle.checker.proofs.Fitting.{AllFit, all_fit}
use Rattle.checker.proofs.Safety.{stays_for_good}
use Rattle.maker.proofs.Making.{makes_least}
use Rattle.promise.specs.Lives.{Event, opening, request, ruling, check, making, Happens, Life, begun, then, is_opening, AcceptedSince, accepted_now, accepted_before}
use Rattle.promise.specs.Promises.{LastingPromise, LivesOn}
use Rattle.promise.proofs.Guarding.{AllGrant, guards}

-- the two tapes list a certificate and bans, and a check would accept them
record Accepted (k : Kept) (certificate bans : List ℕ) (s : State) : Type 0 where
  c : Certificate
  banned : List Ban
  read : BothRead k.counts certificate bans c banned
  accepts : Accepts k s.protection c banned

module _ (k : Kept) (fit : AllFit k) (certificate bans : List ℕ) where
  checked_accepts : (s : State) → Checked k s certificate bans (accepted tt) → Accepted k certificate bans s
  checked_accepts s checked =
      let shown = (accepted_exactly k s certificate bans (accepted tt) checked).0 refl in
      record { c = shown.0; banned = shown.1; read = (shown.2, shown.3); accepts = shown.4 }

  -- it stays so whatever happens, but for an opening
  stays_accepted : (e : Event) (s t : State) → is_opening e ≡ false → Happens k s e t → Accepted k certificate bans s → Accepted k certificate bans t
  stays_accepted (opening tape answer) s t unopened happens was = cc
  stays_accepted (request number names answer) s t unopened happens was =
      record {
        c = was.c;
        banned = was.banned;
        read = was.read;
        accepts = record {
          contains = (stays_for_good k fit).request was.c s t number names answer was.accepts.closed was.accepts.contains happens;
          closed = was.accepts.closed;
          unmet = was.accepts.unmet;
        };
      }
  stays_accepted (ruling row column right answer) s t unopened happens was = subst (Accepted k certificate bans) (sym happens.1) was
  stays_accepted (check tape others answer) s t unopened happens was = subst (Accepted k certificate bans) (sym happens.1) was
  stays_accepted (making others buffer answer after) s t unopened happens was = subst (Accepted k certificate bans) (sym happens.1) was

  accepted_since : {es : List Event} {s : State} → Life k es s → AcceptedSince certificate bans es → Accepted k certificate bans s
  accepted_since (begun empty) since = elim since [ ]
  accepted_since (then {before = s} e life happens) accepted_now = subst (Accepted k certificate bans) (sym happens.1) (checked_accepts s happens.0)
  accepted_since (then {before = s} {after = t} e life happens) (accepted_before unopened since) = stays_accepted e s t unopened happens (accepted_since life since)

module _ (k : Kept) (fit : AllFit k) (grants : AllGrant k) where
  lasting : LastingPromise k
  lasting es s life = record {
    guarded = λ certificate bans since.
        let ok = accepted_since k fit certificate bans life since in
        record { c = ok.c; banned = ok.banned; read = ok.read; guards = guards k grants s.protection ok.c ok.accepts.contains ok.banned ok.accepts.unmet };
    makes = makes_least k s;
  }

pub life_begins : (k : Kept) (s : State) → s ≡ empty_state → Life k [] s
life_begins k s new = begun new

-- It is kept by every register, since its scheme is lawful, and its ruling grants what the cell holds and nothing else.
module _ {S C R : Type 0} {scales : OfScales S} {stores : OfStore C} {rulings : OfRuling R} (grants : (ruling : R) (q : Question) → rulings.says ruling q ≡ true → held q ≡ true) (r : Register S C R scales stores rulings) where
  pub lasting_promise : LastingPromise (kept_by r)
  lasting_promise = lasting (kept_by r) (all_fit r) (grants r.ruling)

  -- what happens in a call leads every life on
  pub lives_on : (s t : State) (e : Event) → Happens (kept_by r) s e t → LivesOn (kept_by r) s e t
  lives_on s t e happens es life =
      let on = then e life happens in
      (on, lasting_promise (e ∷ es) t on)
