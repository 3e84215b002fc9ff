-- What is to be added where a casting escapes.
use Rattle.std.specs.Prelude.{◌≡◌, ℕ, Bool, Some}
use Rattle.model.specs.declared.stamp.Stamp.{Stamp as AnyStamp}
use Rattle.scheme.specs.Commands.{Command}
use Rattle.protection.specs.States.{Protection}
use Rattle.certificates.specs.Certificates.{Certificate, between}
use Rattle.castings.specs.Closure.{Closed}
use Rattle.castings.specs.declared.escape.Breach.{Breach}
use Rattle.castings.specs.declared.escape.Breach.TheVariants.{Unlisted, Cell, Row, Column}
use Rattle.maker.specs.declared.need.Need.{Need}
use Rattle.maker.specs.declared.need.Need.TheVariants.{Stamp, Rights}
use Rattle.maker.specs.Comparing.{Above}
use Rattle.maker.specs.Growing.{Has}

-- What is to be added by the condition that fails, of what the parameters saw before and see after. It is the whole of a mask and not
-- only the right that is shown, so that a casting need not be found once for each right:
abbrev pub Mends : Certificate → (before after : Protection) → Breach → Need → Type 0
-- the new stamp that is not listed;
Mends c before after (Unlisted i) need = (s : AnyStamp) × (after.entry i ≡ Some s) × (need ≡ Stamp s)
-- the new cell, for the new stamps;
Mends c before after (Cell i j right) need = (u : AnyStamp) × (v : AnyStamp) × (after.entry i ≡ Some u) × (after.entry j ≡ Some v) × (need ≡ Rights u v (after.cells i j))
-- what the old stamp was allowed on w, for the new one;
Mends c before after (Row i w right) need = (v : AnyStamp) × (after.entry i ≡ Some v) × (need ≡ Rights v w (between c (before.entry i) (Some w)))
-- and what w was allowed on it.
Mends c before after (Column i w right) need = (v : AnyStamp) × (after.entry i ≡ Some v) × (need ≡ Rights w v (between c (Some w) (before.entry i)))

-- The table lacks this, and whatever says all that the table says and is closed under the command has it.
pub record NeededBy (covers : (k a b : ℕ) → Bool) (t : Certificate) (m : Command) (need : Need) : Type 0 where
  pub lacks : Has t need → ⊥
  pub needed : (d : Certificate) → Above d t → Closed covers d m → Has d need
