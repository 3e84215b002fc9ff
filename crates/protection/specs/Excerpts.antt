-- A command runs on what its parameters see of a state. What is put back then, and what becomes of all else.
use Rattle.std.specs.Prelude.{◌≡◌, ℕ, ◌<◌, Bool, cond, ◌||◌, List, length, Some, None, Option, ◌==◌}
use Rattle.std.specs.List.{list_any, position}
use Rattle.model.specs.declared.stamp.Stamp.{Stamp}
use Rattle.scheme.specs.declared.step.Step.{Step}
use Rattle.scheme.specs.Commands.{Command}
use Rattle.scheme.specs.Steps.{creates_in_step, destroys_in_step}
use Rattle.stores.specs.Matrices.{Matrix}
use Rattle.protection.specs.Commands.{name_at, seen, run}
use Rattle.protection.specs.States.{Protection}

-- the parameter that a name is put for, if it is put for one
abbrev pub parameter_of : (names : List ℕ) → (name : ℕ) → Option ℕ
parameter_of names n = position (λ m. m == n) names

-- one of the steps creates parameter i, or destroys it
abbrev pub renewed : List Step → (i : ℕ) → Bool
renewed steps i = list_any (λ s. creates_in_step i s || destroys_in_step i s) steps

-- The entry of a parameter is what is put back; that of another name is as it was.
abbrev pub entry_back : (back : ℕ → Option Stamp) → (parameter : Option ℕ) → (old : Option Stamp) → Option Stamp
entry_back back (Some i) old = back i
entry_back back None old = old

-- A cell between two parameters is what is put back. All others are as they were, but those in the row and the column of what
-- is created or destroyed, which are empty.
abbrev pub cell_back : (renewed : ℕ → Bool) → (back : Matrix) → (row column : Option ℕ) → (old : ℕ) → ℕ
cell_back renewed back (Some i) (Some j) old = back i j
cell_back renewed back (Some i) None old = cond (renewed i) 0 old
cell_back renewed back None (Some j) old = cond (renewed j) 0 old
cell_back renewed back None None old = old

abbrev pub cells_back : (names : List ℕ) → (renewed : ℕ → Bool) → (back : Matrix) → Matrix → Matrix
cells_back names renewed back f s o = cell_back renewed back (parameter_of names s) (parameter_of names o) (f s o)

abbrev pub entries_back : (names : List ℕ) → (back : ℕ → Option Stamp) → (ℕ → Option Stamp) → ℕ → Option Stamp
entries_back names back entries n = entry_back back (parameter_of names n) (entries n)

abbrev pub put_back : (names : List ℕ) → (renewed : ℕ → Bool) → (back : Protection) → Protection → Protection
put_back names renewed back p = record { entry = entries_back names back.entry p.entry; cells = cells_back names renewed back.cells p.cells }

-- each parameter is its own name
abbrev pub itself : ℕ → ℕ
itself i = i

-- no two of the names are equal
abbrev pub Distinct : List ℕ → Type 0
Distinct names = (i j : ℕ) → i < length names → j < length names → name_at names i ≡ name_at names j → i ≡ j

-- The steps of a command, run on what its parameters see and put back, are the same steps run on the whole state.
abbrev pub RunsWhole : Command → Type 0
RunsWhole m =
    (names : List ℕ) (p : Protection)
    → length names ≡ m.params
    → Distinct names
    → run m.cards (name_at names) m.steps p
    ≡ put_back names (renewed m.steps) (run m.cards itself m.steps (seen (name_at names) p)) p
