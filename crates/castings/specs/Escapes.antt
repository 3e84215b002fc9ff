-- What shows that a certificate is not closed under a command: a passing casting, and a condition that fails at a place.
use Rattle.std.specs.Prelude.{◌≡◌, ℕ, Bool, true, false, Some, None, slice_get, unwrap_or}
use Rattle.model.specs.declared.stamp.Stamp.{Stamp}
use Rattle.model.specs.Masks.{has}
use Rattle.scheme.specs.Commands.{Command}
use Rattle.protection.specs.Excerpts.{renewed}
use Rattle.protection.specs.States.{Protection}
use Rattle.certificates.specs.Certificates.{Certificate, lists, allows}
use Rattle.castings.specs.declared.escape.Breach.{Breach}
use Rattle.castings.specs.declared.escape.Breach.TheVariants.{Unlisted, Cell, Row, Column}
use Rattle.castings.specs.declared.escape.Escape.{Escape}
use Rattle.castings.specs.Castings.{Casting, Casts, cast_state, Passes}
use Rattle.castings.specs.Closure.{Moves, outcome_of}

-- parameter i is left standing with a stamp that is not listed
pub record UnlistedAt (c : Certificate) (after : Protection) (i : ℕ) : Type 0 where
  pub stamp : Stamp
  pub stands : after.entry i ≡ Some stamp
  pub unlisted : lists c stamp ≡ false

-- both are left standing, and their cell holds a right that is not allowed
pub record CellOutside (c : Certificate) (after : Protection) (i j right : ℕ) : Type 0 where
  pub row : Stamp
  pub column : Stamp
  pub stands : after.entry i ≡ Some row
  pub stands_too : after.entry j ≡ Some column
  pub holds : has (after.cells i j) right ≡ true
  pub outside : has (allows c row column) right ≡ false

-- a parameter moves, and a right that it was allowed on a listed stamp w it is allowed no longer
pub record RowLost (c : Certificate) (renewed : ℕ → Bool) (before after : Protection) (i : ℕ) (w : Stamp) (right : ℕ) : Type 0 where
  pub old : Stamp
  pub new : Stamp
  pub moves : Moves renewed before after i old new
  pub listed : lists c w ≡ true
  pub had : has (allows c old w) right ≡ true
  pub lost : has (allows c new w) right ≡ false

-- the same of a right that w was allowed on it
pub record ColumnLost (c : Certificate) (renewed : ℕ → Bool) (before after : Protection) (i : ℕ) (w : Stamp) (right : ℕ) : Type 0 where
  pub old : Stamp
  pub new : Stamp
  pub moves : Moves renewed before after i old new
  pub listed : lists c w ≡ true
  pub had : has (allows c w old) right ≡ true
  pub lost : has (allows c w new) right ≡ false

-- the condition fails where it is said
abbrev pub IsBreach : Certificate → (renewed : ℕ → Bool) → (before after : Protection) → Breach → Type 0
IsBreach c renewed before after (Unlisted i) = UnlistedAt c after i
IsBreach c renewed before after (Cell i j right) = CellOutside c after i j right
IsBreach c renewed before after (Row i w right) = RowLost c renewed before after i w right
IsBreach c renewed before after (Column i w right) = ColumnLost c renewed before after i w right

-- the casting by these stamps
abbrev pub casting_of : Escape → Casting
casting_of e i = unwrap_or (slice_get e.stamps i) None

-- it is a casting of the command that passes, and a condition fails
pub record IsEscape (covers : (k a b : ℕ) → Bool) (c : Certificate) (m : Command) (e : Escape) : Type 0 where
  pub casts : Casts c m (casting_of e)
  pub passes : Passes covers m (cast_state c (casting_of e))
  pub breach : IsBreach c (renewed m.steps) (cast_state c (casting_of e)) (outcome_of c m (casting_of e)) e.breach
