-- What a command sees, as it is kept: three entries, and three by three cells.
use Rattle.std.specs.Prelude.{ℕ, cond, ◌&&◌, List, [], None, nat_lt, slice_get, slice_index_or, unwrap_or}
use Rattle.stores.specs.Matrices.{Matrix}
use Rattle.protection.specs.declared.excerpt.Excerpt.{Excerpt}
use Rattle.protection.specs.States.{Protection}

-- the mask in row i and column j of a table; outside it there are empty cells only
abbrev pub cells_of : List (List ℕ) → Matrix
cells_of table i j = cond (nat_lt i 3 && nat_lt j 3) (slice_index_or (slice_index_or table i []) j 0) 0

abbrev pub protection_of : Excerpt → Protection
protection_of e = record { entry = λ i. unwrap_or (slice_get e.entries i) None; cells = cells_of e.cells }
