-- The turns of the reader's loop: what stands is what the items read so far open, and each way out tells why.
use Rattle.std.proofs.Common.{◌≡◌, ℕ, List, Some, None, Ok, Err, Result, refl, ap, ◌∙◌}
use Rattle.model.specs.declared.counts.Counts.{Counts}
use Rattle.model.specs.declared.fault.Fault.{Fault}
use Rattle.model.specs.Answers.{accepted, refusal, unless}
use Rattle.protection.specs.States.{Protection}
use Rattle.tapes.specs.declared.orders.Orders.{Orders}
use Rattle.tapes.specs.declared.reader.Placed.{Placed}
use Rattle.tapes.specs.declared.tape.Tape.TheVariants.{Opening}
use Rattle.tapes.specs.Readers.{measured}
use Rattle.tapes.specs.Steps.{Steps}
use Rattle.tapes.specs.Taking.{taken}
use Rattle.tapes.proofs.Making.{Reached as ReachedMaking, refused_item, broken_item, reached_on, all_encoded}
use Rattle.tapes.proofs.Turns.{RightFault, too_many}
use Rattle.opening.specs.Opened.{TakenIn}
use Rattle.opening.specs.Said.{said, broken_by, with_listed}
use Rattle.opening.proofs.Forming.{opening_making}
use Rattle.opening.proofs.Language.{opening_language}

-- the loop stands behind some items, and what stands is what they open
abbrev pub Reached : (c : Counts) (limit : ℕ) (bytes : List ℕ) (s : Orders) (state : Protection) → Type 0
Reached c limit = ReachedMaking (opening_making c limit)

module _ (c : Counts) (limit : ℕ) (bytes : List ℕ) where
  refused_as : (f : Fault) → RightFault (opening_language c limit) bytes f → (state : Protection) → TakenIn c limit bytes (refusal f) state
  refused_as f right state = record { reading = refusal f; read = right; answered = refl; holds = tt }

  -- too many bytes
  pub too_long : (f : Fault) → refusal f ≡ measured Opening bytes → (state : Protection) → TakenIn c limit bytes (refusal f) state
  too_long f h state = refused_as f (too_many (opening_language c limit) bytes f h) state

  module _ (s t : Orders) (state : Protection) (at : Reached c limit bytes s state) where
    pub no_order : (r : Result Placed Fault) (f : Fault) → Steps s (Some r) t → r ≡ Err f → TakenIn c limit bytes (refusal f) state
    no_order r f step is = refused_as f (refused_item at step is) state

    -- an order, where the store's limit is what it was
    module _ (now : ℕ) (same : now ≡ limit) (r : Result Placed Fault) (p : Placed) (step : Steps s (Some r) t) (is : r ≡ Ok p) where
      pub broken : (f : Fault) → refusal f ≡ taken Opening p.offset (broken_by c now state (said p.order)) → (after : Protection) → TakenIn c limit bytes (refusal f) after
      broken f h after = refused_as f (broken_item at step is f (h ∙ ap (λ n. taken Opening p.offset (broken_by c n state (said p.order))) same)) after

      pub taken_on : (after : Protection) → accepted tt ≡ taken Opening p.offset (broken_by c now state (said p.order)) → after ≡ unless (broken_by c now state (said p.order)) state (with_listed state (said p.order)) → Reached c limit bytes t after
      taken_on after ok after_is =
          reached_on at step is
          (ok ∙ ap (λ n. taken Opening p.offset (broken_by c n state (said p.order))) same)
          (after_is ∙ ap (λ n. unless (broken_by c n state (said p.order)) state (with_listed state (said p.order))) same)

    -- the end of the tape
    pub all_taken : Steps s None t → TakenIn c limit bytes (accepted tt) state
    all_taken step = record {
      reading = accepted at.items;
      read = all_encoded at step;
      answered = refl;
      holds = at.holds;
    }
