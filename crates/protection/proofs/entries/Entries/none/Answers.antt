-- Of so many records with no entry, each has none, and so has what is past them.
use Rattle.std.proofs.Common.{◌≡◌, ℕ, zero, suc, Option, None, replicate, refl}
use Rattle.std.specs.Prelude.{slice_get, unwrap_or}
use Rattle.model.specs.declared.stamp.Stamp.{Stamp}
use Rattle.protection.proofs.entries.Entries.none.Goals as goal

none_at : (n i : ℕ) → unwrap_or (slice_get (replicate {A = Option Stamp} n None) i) None ≡ None
none_at zero i = refl
none_at (suc n) zero = refl
none_at (suc n) (suc i) = none_at n i

pub returns : goal.returns
returns c = λ i name. none_at 64 name i
