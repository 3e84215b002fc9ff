-- A making, by what its parts answer.
use Rattle.std.proofs.Common.{◌≡◌, ℕ, ◌<◌, ◌≤◌, List, length, Option, Some, None, MatchOption, refl}
use Rattle.std.specs.Option.{ok_or}
use Rattle.model.specs.declared.fault.Fault.{Fault}
use Rattle.model.specs.Answers.{answer, refused, accepted, refusal}
use Rattle.model.specs.Faults.{layer_number, reason_number}
use Rattle.certificates.specs.declared.ban.Ban.{Ban}
use Rattle.certificates.specs.BanTapes.{BansRead}
use Rattle.register.specs.States.{State, Kept}
use Rattle.writing.specs.Writing.{full_size}
use Rattle.maker.specs.Making.{HandedInto, Made, bad_bans, too_small, none, made, NoneAccepted}

-- a fault as an answer
pub as_refused : {X : Type 0} (f : Fault) (layer number place : ℕ) → layer_number f.layer ≡ layer → reason_number f.reason ≡ number → f.place ≡ place → refusal {X = X} f ≡ refused layer number place
as_refused f layer number place in_layer rule at = λ i. refused (in_layer i) (rule i) (at i)

module _ (k : Kept) (s : State) (bans buffer : List ℕ) where
  pub not_read : (layer number place : ℕ) → BansRead k.counts bans (refused layer number place) → Made k s bans buffer (refused layer number place) buffer
  not_read layer number place read = bad_bans layer number place read refl refl

  module _ (banned : List Ban) (read : BansRead k.counts bans (accepted banned)) (f : Fault) where
    pub no_room : length buffer < full_size → refusal {X = ℕ} f ≡ refused 6 20 0 → Made k s bans buffer (refusal f) buffer
    no_room small is = too_small banned read small is refl

    pub made_or_none : full_size ≤ length buffer → refusal {X = ℕ} f ≡ refused 6 21 0 → (result : Option ℕ) (after : List ℕ) → MatchOption result (NoneAccepted k s.protection banned × (after ≡ buffer)) (λ n. HandedInto k s.protection banned buffer n after) → Made k s bans buffer (answer (λ n. n) (ok_or result f)) after
    made_or_none large is None after not = none banned read large not.0 is not.1
    made_or_none large is (Some n) after out = made banned n read large out refl
