-- What steps make of one entry and of one cell. It depends on which parameters they are of, and on what they were before.
use Rattle.std.specs.Prelude.{ℕ, cond, ◌&&◌, ◌||◌, List, Some, None, Option, fold, ◌==◌}
use Rattle.std.specs.Option.{option_map}
use Rattle.model.specs.declared.stamp.Stamp.{Stamp}
use Rattle.model.specs.Masks.{with_right, without_right}
use Rattle.scheme.specs.declared.step.Step.{Step}
use Rattle.scheme.specs.declared.step.Step.TheVariants.{Enter, Delete, Set, Create, Destroy}
use Rattle.protection.specs.Commands.{declared_kind}
use Rattle.protection.specs.Operations.{null_stamp, with_attribute}

-- the mask in a cell after a step, where the cell's row is parameter a and its column parameter b
abbrev pub cell_after : Step → (a b : ℕ) → (mask : ℕ) → ℕ
cell_after (Enter r i j) a b mask = cond (a == i && b == j) (with_right mask r) mask
cell_after (Delete r i j) a b mask = cond (a == i && b == j) (without_right mask r) mask
cell_after (Set i k v) a b mask = mask
cell_after (Create i) a b mask = cond (a == i || b == i) 0 mask
cell_after (Destroy i) a b mask = cond (a == i || b == i) 0 mask

-- the entry of parameter a after a step
abbrev pub entry_after : (cards : ℕ) → Step → (a : ℕ) → Option Stamp → Option Stamp
entry_after cards (Enter r i j) a entry = entry
entry_after cards (Delete r i j) a entry = entry
entry_after cards (Set i k v) a entry = cond (a == i) (option_map (with_attribute k v) entry) entry
entry_after cards (Create i) a entry = cond (a == i) (Some (null_stamp (declared_kind cards i))) entry
entry_after cards (Destroy i) a entry = cond (a == i) None entry

-- the same after steps in order
abbrev pub cell_after_all : List Step → (a b : ℕ) → (mask : ℕ) → ℕ
cell_after_all steps a b mask = fold (λ m s. cell_after s a b m) mask steps

abbrev pub entry_after_all : (cards : ℕ) → List Step → (a : ℕ) → Option Stamp → Option Stamp
entry_after_all cards steps a entry = fold (λ e s. entry_after cards s a e) entry steps
