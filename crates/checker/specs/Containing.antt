-- When a certificate contains a protection state, and what shows that it does not.
use Rattle.std.specs.Prelude.{◌≡◌, ℕ, Bool, true, false, not, Some, None, Option, ◌⊎◌}
use Rattle.model.specs.declared.stamp.Stamp.{Stamp}
use Rattle.model.specs.Masks.{has, Within}
use Rattle.protection.specs.States.{Protection}
use Rattle.certificates.specs.Certificates.{Certificate, lists, between}
use Rattle.castings.specs.Escapes.{UnlistedAt}
use Rattle.checker.specs.declared.flaw.Stray.{Stray}
use Rattle.checker.specs.declared.flaw.Stray.TheVariants.{Unlisted, Cell}

-- The stamp of each entry that stands is listed, and each cell lies within what is allowed between its two entries.
pub record Contains (c : Certificate) (p : Protection) : Type 0 where
  pub stamps : (n : ℕ) (s : Stamp) → p.entry n ≡ Some s → lists c s ≡ true
  pub cells : (n o : ℕ) → Within (p.cells n o) (between c (p.entry n) (p.entry o))

-- the cell holds a right that is not allowed
pub record CellStray (c : Certificate) (p : Protection) (n o right : ℕ) : Type 0 where
  pub holds : has (p.cells n o) right ≡ true
  pub outside : has (between c (p.entry n) (p.entry o)) right ≡ false

-- A name is at fault by the stamp of its entry, or by a cell of its row.
abbrev pub AtFault : Certificate → Protection → (n : ℕ) → Type 0
AtFault c p n = UnlistedAt c p n ⊎ ((o : ℕ) × (right : ℕ) × CellStray c p n o right)

-- the name is at fault by what is said
abbrev pub IsStray : Certificate → Protection → Stray → Type 0
IsStray c p (Unlisted n) = UnlistedAt c p n
IsStray c p (Cell n o right) = CellStray c p n o right

abbrev pub stray_name : Stray → ℕ
stray_name (Unlisted n) = n
stray_name (Cell n o right) = n

-- What follows is what the parts of the decision do.

-- Contained name by name: its stamp is listed, if an entry stands there, and so it is of each cell of its row.
abbrev pub unlisted : Certificate → Option Stamp → Bool
unlisted c None = false
unlisted c (Some s) = not (lists c s)

abbrev pub CellInside : Certificate → Protection → (n o : ℕ) → Type 0
CellInside c p n o = Within (p.cells n o) (between c (p.entry n) (p.entry o))

abbrev pub RowInside : Certificate → Protection → (n : ℕ) → Type 0
RowInside c p n = (o : ℕ) → CellInside c p n o

pub record NameInside (c : Certificate) (p : Protection) (n : ℕ) : Type 0 where
  pub stamp : unlisted c (p.entry n) ≡ false
  pub row : RowInside c p n
