-- What a call answers, case by case: each case has its number and the values that it carries. Contracts of calls that
-- answer by an enum are stated through this.
use Rattle.std.specs.Prelude.{ℕ, Bool, cond, List, [], ◌∷◌, Some, None, Ok, Err, Option, Result}
use Rattle.model.specs.declared.fault.Fault.{Fault}
use Rattle.model.specs.declared.fault.Reason.{Reason}
use Rattle.model.specs.Faults.{layer_number, reason_number}

-- accepted, with what the call hands out; or refused, by the rule's number, in a layer and at a place
pub data Answer (X : Type 0) : Type 0 where
  accepted : X → Answer X
  refused : (layer number place : ℕ) → Answer X

-- the number of the case: 0 for an accepted call, else the rule's
abbrev pub case_number : {X : Type 0} → Answer X → ℕ
case_number (accepted x) = 0
case_number (refused layer number place) = number

abbrev pub refusal : {X : Type 0} → Fault → Answer X
refusal f = refused (layer_number f.layer) (reason_number f.reason) f.place

-- a result with a fault as an answer; `plain` says what the value stands for
abbrev pub answer : {S X : Type 0} → (S → X) → Result S Fault → Answer X
answer plain (Ok s) = accepted (plain s)
answer plain (Err f) = refusal f

-- the rule by which a call is refused, if it is
abbrev pub refused_by : {X : Type 0} → Result X Reason → Option ℕ
refused_by (Ok x) = None
refused_by (Err reason) = Some (reason_number reason)

-- The lowest rule that is broken: rules come by rising numbers, each with whether it is broken.
abbrev pub lowest : List (ℕ × Bool) → Option ℕ
lowest [] = None
lowest (rule ∷ rules) = cond rule.1 (Some rule.0) (lowest rules)

-- What a change leaves: the old where a rule is broken, else the new. Contracts say what is answered and what is left in two
-- clauses, so that each fails under its own name.
abbrev pub unless : {X : Type 0} → Option ℕ → (old new : X) → X
unless None old new = new
unless (Some rule) old new = old
