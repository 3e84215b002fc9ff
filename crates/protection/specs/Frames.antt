-- What the steps of a command leave as it was.
use Rattle.std.specs.Prelude.{◌≡◌, ℕ, Bool, false, cond, ◌&&◌, ◌||◌, List, ◌==◌}
use Rattle.std.specs.List.{list_any}
use Rattle.scheme.specs.declared.step.Step.{Step}
use Rattle.scheme.specs.declared.step.Step.TheVariants.{Enter, Delete, Set, Create, Destroy}
use Rattle.protection.specs.States.{Protection}

-- The step sets an attribute of the entry n, creates it or destroys it, where `name` gives the name for each parameter.
abbrev pub names_entry : (name : ℕ → ℕ) → (n : ℕ) → Step → Bool
names_entry name n (Enter r i j) = false
names_entry name n (Delete r i j) = false
names_entry name n (Set i k v) = n == name i
names_entry name n (Create i) = n == name i
names_entry name n (Destroy i) = n == name i

-- The step enters or deletes a right in the cell [s, o], or creates or destroys what its row or its column is of.
abbrev pub names_cell : (name : ℕ → ℕ) → (s o : ℕ) → Step → Bool
names_cell name s o (Enter r i j) = s == name i && o == name j
names_cell name s o (Delete r i j) = s == name i && o == name j
names_cell name s o (Set i k v) = false
names_cell name s o (Create i) = s == name i || o == name i
names_cell name s o (Destroy i) = s == name i || o == name i

-- What one of the steps names may be another afterwards; all other entries and cells are as they were.
pub record Untouched (name : ℕ → ℕ) (steps : List Step) (before after : Protection) : Type 0 where
  pub entries : (n : ℕ) → after.entry n ≡ cond (list_any (names_entry name n) steps) (after.entry n) (before.entry n)
  pub cells : (s o : ℕ) → after.cells s o ≡ cond (list_any (names_cell name s o) steps) (after.cells s o) (before.cells s o)
