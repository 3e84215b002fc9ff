-- A certificate that contains a register, and is closed under its commands, contains it after every request.
use Rattle.std.proofs.Common.{◌≡◌, ℕ, Bool, List, [], Some, None, Option, slice_get, sym, ap, refl, subst, ◌∙◌}
use Rattle.model.specs.Answers.{Answer}
use Rattle.model.specs.Masks.{has}
use Rattle.model.specs.declared.scales.Scales.{Ghosts as OfScales}
use Rattle.rulings.specs.declared.ruling.Ruling.{Ghosts as OfRuling}
use Rattle.scheme.specs.Commands.{Command}
use Rattle.stores.specs.declared.store.CellStore.{Ghosts as OfStore}
use Rattle.protection.specs.Commands.{name_at, run}
use Rattle.protection.specs.Requests.{unless_refused}
use Rattle.protection.specs.States.{Protection}
use Rattle.protection.proofs.Keeping.{keeps_sound}
use Rattle.protection.proofs.Places.{Shaped}
use Rattle.protection.proofs.Shaping.{shaped_after}
use Rattle.certificates.specs.declared.ban.Ban.{Ban}
use Rattle.certificates.specs.Bans.{Meets}
use Rattle.certificates.specs.Certificates.{Certificate, between}
use Rattle.castings.specs.Closure.{Closed}
use Rattle.register.specs.declared.register.Register.{Register}
use Rattle.register.specs.Requests.{Requested, done, broken_rule, counted}
use Rattle.register.specs.States.{State, Kept}
use Rattle.register.specs.Views.{kept_by}
use Rattle.checker.specs.Containing.{Contains}
use Rattle.checker.specs.Judgements.{ClosedUnderAll}
use Rattle.checker.specs.Safety.{Requests, none, then, Breaks, KeepsInside}
use Rattle.checker.proofs.Bounding.{contained_sound}
use Rattle.checker.proofs.Casting.{cast_by, cast_at, casts}
use Rattle.checker.proofs.Inside.{stays_inside}
use Rattle.checker.proofs.Passing.{all_passes}
use Rattle.checker.proofs.Fitting.{Fit, AllFit, all_fit}
use Rattle.checker.proofs.Obeying.{Obeyed, obeyed}

-- what an accepted request leaves
pub run_inside : (covers : ℕ → ℕ → ℕ → Bool) (c : Certificate) (m : Command) (names : List ℕ) (p : Protection) → Fit m → Obeyed covers m names p → Closed covers c m → Contains c p → Contains c (run m.cards (name_at names) m.steps p)
run_inside covers c m names p fit ok closed contains =
    let σ = cast_by m names p in
    let as_cast = cast_at c m names p contains ok.standing ok.cards in
    let shaped = shaped_after m.params m.cards m.tests [] m.steps fit.stepped in
    let cast = casts c m names p contains ok.standing ok.cards in
    let passing = all_passes covers c m.params m.cards names p contains σ as_cast m.tests fit.tested ok.passed in
    stays_inside c m names p σ contains ok.distinct
    (subst (λ n. Shaped n m.steps) (sym ok.sized) shaped)
    (λ i lt. as_cast i (rw (sym ok.sized) lt))
    (closed σ cast passing)
    (keeps_sound m names p fit.stepped ok.sized ok.distinct ok.standing ok.cards (contained_sound c p contains))

-- a right that is held is allowed between the two stamps, so they meet the ban
pub breaks_none : (c : Certificate) (p : Protection) (ban : Ban) → Contains c p → (Meets c ban → ⊥) → Breaks p ban → ⊥
breaks_none c p ban contains unmet b =
    let same : between c (p.entry b.row) (p.entry b.column) ≡ between c (Some b.u) (Some b.v) = λ i. between c (b.holder i) (b.held i) in
    unmet (
      b.u,
      b.v,
      record {
        row = contains.stamps b.row b.u b.holder;
        column = contains.stamps b.column b.v b.held;
        fit = b.fit;
        held = ap (λ m. has m ban.right) (sym same) ∙ contains.cells b.row b.column ban.right b.right;
      },
    )

module _ (k : Kept) (fit : AllFit k) where
  done_inside : (c : Certificate) (s : State) (number : ℕ) (m : Option Command) (names : List ℕ) (rule : Option (ℕ × ℕ)) → ClosedUnderAll k c → Contains c s.protection → slice_get k.commands number ≡ m → broken_rule k s.protection m names ≡ rule → Contains c (unless_refused rule s (counted (done m names s.protection) s.count)).protection
  done_inside c s number m names (Some rule) closed contains command broken = contains
  done_inside c s number None names None closed contains command broken = contains
  done_inside c s number (Some m) names None closed contains command broken =
      run_inside k.covers c m names s.protection (fit number m command) (obeyed k m names s.protection broken) (closed number m command) contains

  request_inside : (c : Certificate) (s t : State) (number : ℕ) (names : List ℕ) (answer : Answer ℕ) → ClosedUnderAll k c → Contains c s.protection → Requested k s number names answer t → Contains c t.protection
  request_inside c s t number names answer closed contains asked =
      let m = slice_get k.commands number in
      subst (λ (u : State). Contains c u.protection) (sym asked.leaves)
      (done_inside c s number m names (broken_rule k s.protection m names) closed contains refl refl)

  requests_inside : (c : Certificate) {s t : State} → ClosedUnderAll k c → Contains c s.protection → Requests k s t → Contains c t.protection
  requests_inside c closed contains none = contains
  requests_inside c closed contains (then {s = s} {t = t} {answer = answer} number names asked rest) =
      requests_inside c closed (request_inside c s t number names answer closed contains asked) rest

  pub stays_for_good : KeepsInside k
  stays_for_good = record {
    request = request_inside;
    requests = λ c s t. requests_inside c;
    bans = breaks_none;
  }

module _ {S C R : Type 0} {scales : OfScales S} {stores : OfStore C} {rulings : OfRuling R} where
  pub keeps_inside : (r : Register S C R scales stores rulings) → KeepsInside (kept_by r)
  keeps_inside r = stays_for_good (kept_by r) (all_fit r)
