-- Rules of a request by rising number, each with the place where it is broken, if it is.
use Rattle.std.specs.Prelude.{ℕ, zero, suc, Bool, cond, not, ◌&&◌, List, [], ◌∷◌, Some, None, Option}
use Rattle.std.specs.List.{list_any, position}
use Rattle.model.specs.Answers.{Answer, accepted, refused}
use Rattle.model.specs.Masks.{has}
use Rattle.scheme.specs.Commands.{Command}
use Rattle.scheme.specs.Steps.{creates_in_step}
use Rattle.protection.specs.Commands.{passes}
use Rattle.protection.specs.States.{Protection, stands, is_subject}

-- the first of n numbers from i on of which this is true
abbrev pub first_from : (bad : ℕ → Bool) → (i n : ℕ) → Option ℕ
first_from bad i zero = None
first_from bad i (suc n) = cond (bad i) (Some i) (first_from bad (suc i) n)

-- the lowest parameter of which this is true
abbrev pub first_parameter : (params : ℕ) → (bad : ℕ → Bool) → Option ℕ
first_parameter params bad = first_from bad 0 params

-- the place 0, where this is true
abbrev pub whole_if : Bool → Option ℕ
whole_if broken = cond broken (Some 0) None

-- where a rule with this number is broken: that number and the place; else by what comes after
abbrev pub or_else : (number : ℕ) → Option ℕ → Option (ℕ × ℕ) → Option (ℕ × ℕ)
or_else number None after = after
or_else number (Some place) after = Some (number, place)

-- the lowest rule that is broken, and where
abbrev pub lowest_placed : List (ℕ × Option ℕ) → Option (ℕ × ℕ)
lowest_placed [] = None
lowest_placed (rule ∷ rules) = or_else rule.0 rule.1 (lowest_placed rules)

-- what the register answers: refused in layer 5 by that rule, at that place; else done
abbrev pub unless_broken : {X : Type 0} → Option (ℕ × ℕ) → (done : X) → Answer X
unless_broken None done = accepted done
unless_broken (Some rule) done = refused 5 rule.0 rule.1

-- a step creates parameter i and an entry stands for it already, or none creates it and none stands
abbrev pub standing_wrong : Command → (seen : Protection) → (i : ℕ) → Bool
standing_wrong m seen i = cond (list_any (creates_in_step i) m.steps) (stands seen i) (not (stands seen i))

-- parameter i is declared a card, no step creates it, and what stands for it is no subject
abbrev pub card_wrong : Command → (seen : Protection) → (i : ℕ) → Bool
card_wrong m seen i = has m.cards i && (not (list_any (creates_in_step i) m.steps) && not (is_subject (seen.entry i)))

-- The rules on what the parameters see.
abbrev pub seen_rules : (covers : (k a b : ℕ) → Bool) → Command → (seen : Protection) → List (ℕ × Option ℕ)
seen_rules covers m seen =
    (13, first_parameter m.params (standing_wrong m seen))
    ∷ (14, first_parameter m.params (card_wrong m seen))
    ∷ (15, position (λ t. not (passes covers seen t)) m.tests)
    ∷ []

-- what a refused call leaves: all as it was
abbrev pub unless_refused : {X : Type 0} → Option (ℕ × ℕ) → (old new : X) → X
unless_refused None old new = new
unless_refused (Some rule) old new = old
