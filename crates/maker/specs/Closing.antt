-- How the maker's table is closed under commands, one addition after the other, and what comes of a turn over one of them or all.
use Rattle.std.specs.Prelude.{◌≡◌, ◌<◌, Bool, true, false}
use Rattle.certificates.specs.Certificates.{Certificate}
use Rattle.maker.specs.Growing.{GrownFor, room}

-- A table that changed has grown, and less is left to add; else it is as it was.
abbrev pub Changed : (Asked : Certificate → Type 0) → (before after : Certificate) → (changed : Bool) → Type 0
Changed Asked before after true = (room after < room before) × GrownFor Asked before after
Changed Asked before after false = after ≡ before

-- The table changed only as far as is asked, and where it did not, it is as asked.
pub record Turned (Asked : Certificate → Type 0) (before after : Certificate) (changed : Bool) : Type 0 where
  pub change : Changed Asked before after changed
  pub unchanged : changed ≡ false → Asked after
