-- The names of a request, and the rules on them.
use Rattle.std.specs.Prelude.{ℕ, ◌<◌, Bool, not, ◌&&◌, List, [], ◌∷◌, length, take, Option, ◌==◌, nat_le}
use Rattle.std.specs.List.{list_any}
use Rattle.stores.specs.Matrices.{is_name}
use Rattle.protection.specs.Commands.{name_at}
use Rattle.protection.specs.Requests.{first_parameter, whole_if}

-- Each of them is a name, which no number over 63 is.
abbrev pub Named : List ℕ → Type 0
Named names = (i : ℕ) → i < length names → name_at names i < 64

-- there is one name for each parameter, and no command has more than three
abbrev pub one_each : (params : ℕ) → (names : List ℕ) → Bool
one_each params names = length names == params && nat_le params 3

-- the name for parameter i is that of an earlier one
abbrev pub repeats : (names : List ℕ) → (i : ℕ) → Bool
repeats names i = list_any (λ m. m == name_at names i) (take i names)

-- Rules on the names for so many parameters: 10 as many as those, 11 no number over 63, 12 no name twice. The first is broken as
-- a whole, the others at the lowest parameter whose name breaks them.
abbrev pub names_rules : (params : ℕ) → (names : List ℕ) → List (ℕ × Option ℕ)
names_rules params names =
    (10, whole_if (not (one_each params names)))
    ∷ (11, first_parameter params (λ i. not (is_name (name_at names i))))
    ∷ (12, first_parameter params (repeats names))
    ∷ []
