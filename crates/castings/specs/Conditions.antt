-- What the parts of the decision do: they try the conditions of closedness one by one, on the cell of two parameters, and on one that
-- moves against one listed stamp.
use Rattle.std.specs.Prelude.{◌≡◌, ℕ, Bool, true, false, Some, Option}
use Rattle.model.specs.declared.stamp.Stamp.{Stamp}
use Rattle.model.specs.Masks.{has, Within}
use Rattle.protection.specs.States.{Protection}
use Rattle.certificates.specs.Certificates.{Certificate, lists, allows, between}
use Rattle.castings.specs.Closure.{Moves}
use Rattle.castings.specs.Escapes.{IsBreach}
use Rattle.castings.specs.declared.escape.Breach.{Breach}
use Rattle.castings.specs.declared.escape.Breach.TheVariants.{Unlisted, Cell, Row, Column}

-- parameter i is left standing with a stamp that is not listed
abbrev pub NumberLost : Certificate → (i : ℕ) → (after : Option Stamp) → Breach → Type 0
NumberLost c i after b = (b ≡ Unlisted i) × ((s : Stamp) × (after ≡ Some s) × (lists c s ≡ false))

-- The cell of i and j, where both are left standing.
abbrev pub CellKept : Certificate → (after : Protection) → (i j : ℕ) → Type 0
CellKept c after i j = (s t : Stamp) → after.entry i ≡ Some s → after.entry j ≡ Some t → Within (after.cells i j) (allows c s t)

-- The condition fails where it is said, whatever was before: so it is none on one that moves.
abbrev pub BreachAfter : Certificate → (after : Protection) → Breach → Type 0
BreachAfter c after b = (renewed : ℕ → Bool) (before : Protection) → IsBreach c renewed before after b

-- One that was and is of these stamps is allowed on w what it was, and w on it.
pub record MoveKept (c : Certificate) (old new : Option Stamp) (w : Stamp) : Type 0 where
  pub row : Within (between c old (Some w)) (between c new (Some w))
  pub column : Within (between c (Some w) old) (between c (Some w) new)

-- it is so on each listed stamp
abbrev pub MoveKeptOnAll : Certificate → (old new : Option Stamp) → Type 0
MoveKeptOnAll c old new = (w : Stamp) → lists c w ≡ true → MoveKept c old new w

-- the right is in the first mask, and not in the second
pub record Lost (was is right : ℕ) : Type 0 where
  pub had : has was right ≡ true
  pub lost : has is right ≡ false

-- parameter i was and is of these stamps, and on a listed stamp a right is lost, or one of it on this
abbrev pub MoveLost : Certificate → (i : ℕ) → (old new : Option Stamp) → Breach → Type 0
MoveLost c i old new (Unlisted j) = ⊥
MoveLost c i old new (Cell j k right) = ⊥
MoveLost c i old new (Row j w right) = (j ≡ i) × (lists c w ≡ true) × Lost (between c old (Some w)) (between c new (Some w)) right
MoveLost c i old new (Column j w right) = (j ≡ i) × (lists c w ≡ true) × Lost (between c (Some w) old) (between c (Some w) new) right

-- parameter i, where it moves, is allowed all that it was on each listed stamp, and each on it
abbrev pub MovesKept : Certificate → (renewed : ℕ → Bool) → (before after : Protection) → (i : ℕ) → Type 0
MovesKept c renewed before after i = (s t : Stamp) → Moves renewed before after i s t → MoveKeptOnAll c (Some s) (Some t)
