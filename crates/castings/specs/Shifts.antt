-- What the parts of the decision do: they note which moves from one stamp to another are known to lose nothing, by their numbers.
use Rattle.std.specs.Prelude.{◌≡◌, ℕ, Bool, true, false, List, [], Some, None, Option, slice_index_or}
use Rattle.certificates.specs.Certificates.{Certificate, stamp_at}
use Rattle.castings.specs.Conditions.{MoveKeptOnAll}

abbrev pub is_known : (rows : List (List Bool)) → (was is : Option ℕ) → Bool
is_known rows None is = false
is_known rows (Some u) None = false
is_known rows (Some u) (Some v) = slice_index_or (slice_index_or rows u []) v false

-- what is noted of the moves from u is so
abbrev pub KnownFrom : Certificate → (u : ℕ) → List Bool → Type 0
KnownFrom c u row = (v : ℕ) → slice_index_or row v false ≡ true → MoveKeptOnAll c (stamp_at c (Some u)) (stamp_at c (Some v))

-- and what is noted of all
abbrev pub Known : Certificate → List (List Bool) → Type 0
Known c rows = (u : ℕ) → KnownFrom c u (slice_index_or rows u [])
