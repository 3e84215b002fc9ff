-- The protection state: which entry stands under which name, and what each may do with each.
use Rattle.std.specs.Prelude.{ℕ, Bool, Some, None, Option, is_some}
use Rattle.model.specs.declared.stamp.Stamp.{Stamp}
pub use Rattle.model.specs.Stamps.{is_subject}
use Rattle.model.specs.Stamps.{attribute_of}
use Rattle.stores.specs.Matrices.{Matrix, blank}

-- the entry's stamp, for each name under which one stands; and the access matrix
pub record Protection : Type 0 where
  pub entry : ℕ → Option Stamp
  pub cells : Matrix

-- no entries, and every cell empty
abbrev pub nothing : Protection
nothing = record { entry = λ n. None; cells = blank }

-- an entry stands under this name
abbrev pub stands : Protection → (name : ℕ) → Bool
stands s n = is_some (s.entry n)

-- attribute k of an entry; where no entry is, all are null
abbrev pub attribute_at : Option Stamp → (k : ℕ) → Option ℕ
attribute_at None k = None
attribute_at (Some stamp) k = attribute_of stamp k
