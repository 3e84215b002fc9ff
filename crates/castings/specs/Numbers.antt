-- What the parts of the decision do: they hold a casting by the numbers of its stamps.
use Rattle.std.specs.Prelude.{ℕ, List, None, Option, slice_get, unwrap_or}
use Rattle.certificates.specs.Certificates.{Certificate, stamp_at}
use Rattle.castings.specs.Castings.{Casting}

-- the number of parameter i; past the last there is none
abbrev pub number_at : (numbers : List (Option ℕ)) → (i : ℕ) → Option ℕ
number_at numbers i = unwrap_or (slice_get numbers i) None

-- the stamps of these numbers
abbrev pub stamps_by : Certificate → (numbers : List (Option ℕ)) → Casting
stamps_by c numbers i = stamp_at c (number_at numbers i)
