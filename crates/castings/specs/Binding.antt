-- What the parts of the decision do: castings are tried parameter by parameter, and what is said here is of those below d, which are
-- bound.
use Rattle.std.specs.Prelude.{◌≡◌, ℕ, ◌<◌, Bool, true, not, ◌&&◌, ◌||◌, List, Option, nat_lt}
use Rattle.std.specs.List.{list_all}
use Rattle.model.specs.declared.stamp.Stamp.{Stamp}
use Rattle.scheme.specs.declared.test.Test.{Test}
use Rattle.scheme.specs.declared.test.Test.TheVariants.{Holds, Is, IsNot, Covers}
use Rattle.scheme.specs.Commands.{Command}
use Rattle.protection.specs.Commands.{passes}
use Rattle.protection.specs.Excerpts.{renewed}
use Rattle.protection.specs.States.{Protection}
use Rattle.certificates.specs.Certificates.{Certificate}
use Rattle.castings.specs.Castings.{Casting, Casts, cast_state, suits, Passes}
use Rattle.castings.specs.Closure.{Keeps, outcome_of}
use Rattle.castings.specs.Escapes.{IsBreach, casting_of}
use Rattle.castings.specs.Places.{ComesAt}
use Rattle.castings.specs.declared.escape.Breach.{Breach}
use Rattle.castings.specs.declared.escape.Escape.{Escape}

-- all parameters that the test names are bound
abbrev pub named_below : (d : ℕ) → Test → Bool
named_below d (Holds r i j) = nat_lt i d && nat_lt j d
named_below d (Is i k v) = nat_lt i d
named_below d (IsNot i k v) = nat_lt i d
named_below d (Covers i k j) = nat_lt i d && nat_lt j d

-- each test passes of which all that it names is bound
abbrev pub ReadyPass : (covers : (k a b : ℕ) → Bool) → Command → Protection → (d : ℕ) → Type 0
ReadyPass covers m seen d = list_all (λ test. not (named_below d test) || passes covers seen test) m.tests ≡ true

-- each parameter that is bound has been given what it may be given
abbrev pub SuitsBelow : Certificate → Command → Casting → (d : ℕ) → Type 0
SuitsBelow c m σ d = (i : ℕ) → i < d → suits c m i (σ i) ≡ true

-- the second gives those that are bound the same as the first
abbrev pub Agrees : (d : ℕ) → (σ τ : Casting) → Type 0
Agrees d σ τ = (i : ℕ) → i < d → τ i ≡ σ i

-- what the outcome of this casting must keep
abbrev pub KeepsBy : Certificate → Command → Casting → Type 0
KeepsBy c m σ = Keeps c (renewed m.steps) (cast_state c σ) (outcome_of c m σ)

-- closed, as far as castings agree with this one, and from parameter d on come at the place or after it
abbrev pub ClosedFrom : (covers : (k a b : ℕ) → Bool) → Certificate → Command → Casting → (d : ℕ) → (place : List ℕ) → Type 0
ClosedFrom covers c m σ d place =
    (τ : Casting) → Casts c m τ → Passes covers m (cast_state c τ) → Agrees d σ τ → ComesAt c τ d place → KeepsBy c m τ

-- the same of those that also give parameter d this stamp, or none
abbrev pub ClosedWith : (covers : (k a b : ℕ) → Bool) → Certificate → Command → Casting → (d : ℕ) → (place : List ℕ) → Option Stamp → Type 0
ClosedWith covers c m σ d place stamp =
    (τ : Casting) → Casts c m τ → Passes covers m (cast_state c τ) → Agrees d σ τ → ComesAt c τ d place → τ d ≡ stamp → KeepsBy c m τ

-- a condition fails on this casting
abbrev pub BreachBy : Certificate → Command → Casting → Breach → Type 0
BreachBy c m σ b = IsBreach c (renewed m.steps) (cast_state c σ) (outcome_of c m σ) b

-- it is this casting that is shown, and the condition that fails
pub record ShowsBreach (c : Certificate) (m : Command) (σ : Casting) (e : Escape) : Type 0 where
  pub same : casting_of e ≡ σ
  pub breach : BreachBy c m σ e.breach
