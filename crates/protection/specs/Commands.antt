-- A command on a protection state: its tests are read in the state before, then its steps run in order.
use Rattle.std.specs.Prelude.{ℕ, Bool, cond, not, List, fold, slice_index_or}
use Rattle.model.specs.declared.kind.Kind.{Kind}
use Rattle.model.specs.declared.kind.Kind.TheVariants.{Subject, Object}
use Rattle.model.specs.Masks.{has}
use Rattle.model.specs.Scales.{both_cover}
use Rattle.model.specs.Stamps.{same_value}
use Rattle.scheme.specs.declared.step.Step.{Step}
use Rattle.scheme.specs.declared.step.Step.TheVariants.{Enter, Delete, Set, Create, Destroy}
use Rattle.scheme.specs.declared.test.Test.{Test}
use Rattle.scheme.specs.declared.test.Test.TheVariants.{Holds, Is, IsNot, Covers}
use Rattle.protection.specs.Operations.{enter, delete, set, create, destroy}
use Rattle.protection.specs.States.{Protection, attribute_at}

-- The name that is put for parameter i. Past the last, it is 64, which is no name.
abbrev pub name_at : (names : List ℕ) → (i : ℕ) → ℕ
name_at names i = slice_index_or names i 64

-- What the parameters see of a state, where `name` gives the name for each of them: their entries, and the cells between.
abbrev pub seen : (name : ℕ → ℕ) → Protection → Protection
seen name p = record { entry = λ i. p.entry (name i); cells = λ i j. p.cells (name i) (name j) }

-- A test passes, by what the parameters see.
abbrev pub passes : (covers : (k a b : ℕ) → Bool) → Protection → Test → Bool
passes covers p (Holds r i j) = has (p.cells i j) r
passes covers p (Is i k v) = same_value (attribute_at (p.entry i) k) v
passes covers p (IsNot i k v) = not (same_value (attribute_at (p.entry i) k) v)
passes covers p (Covers i k j) = both_cover (covers k) (attribute_at (p.entry i) k) (attribute_at (p.entry j) k)

-- The kind of what a command creates for parameter i: a declared card is a subject, all else is an object.
abbrev pub declared_kind : (cards i : ℕ) → Kind
declared_kind cards i = cond (has cards i) Subject Object

-- One step, where `name` gives the name for each parameter; bit i of `cards` declares parameter i a card.
abbrev pub step : (cards : ℕ) → (name : ℕ → ℕ) → Protection → Step → Protection
step cards name p (Enter r i j) = enter r (name i) (name j) p
step cards name p (Delete r i j) = delete r (name i) (name j) p
step cards name p (Set i k v) = set (name i) k v p
step cards name p (Create i) = create (declared_kind cards i) (name i) p
step cards name p (Destroy i) = destroy (name i) p

-- steps in order
abbrev pub run : (cards : ℕ) → (name : ℕ → ℕ) → List Step → Protection → Protection
run cards name steps p = fold (step cards name) p steps
