-- The rules on one test of a command.
use Rattle.std.specs.Prelude.{ℕ, Bool, true, ◌&&◌, ◌||◌, ◌==◌, nat_lt}
use Rattle.model.specs.declared.counts.Counts.{Counts}
use Rattle.model.specs.Counts.{is_null_or_value}
use Rattle.model.specs.Masks.{has}
use Rattle.scheme.specs.declared.test.Test.{Test}
use Rattle.scheme.specs.declared.test.Test.TheVariants.{Holds, Is, IsNot, Covers}

-- parameter n is one of those that the test names
abbrev pub names_in_test : ℕ → Test → Bool
names_in_test n (Holds r i j) = n == i || n == j
names_in_test n (Is i k v) = n == i
names_in_test n (IsNot i k v) = n == i
names_in_test n (Covers i k j) = n == i || n == j

-- in a command of p parameters: parameters, right and attribute are in range
abbrev pub test_shaped : (p : ℕ) → Test → Bool
test_shaped p (Holds r i j) = nat_lt r 16 && (nat_lt i p && nat_lt j p)
test_shaped p (Is i k v) = nat_lt i p && nat_lt k 4
test_shaped p (IsNot i k v) = nat_lt i p && nat_lt k 4
test_shaped p (Covers i k j) = nat_lt i p && (nat_lt k 4 && nat_lt j p)

-- a value that is compared with is null or a value of its attribute
abbrev pub test_valued : Counts → Test → Bool
test_valued c (Holds r i j) = true
test_valued c (Is i k v) = is_null_or_value c k v
test_valued c (IsNot i k v) = is_null_or_value c k v
test_valued c (Covers i k j) = true

-- bit i of the declared cards is set where i is the row of a cell
abbrev pub test_row_declared : (cards : ℕ) → Test → Bool
test_row_declared cards (Holds r i j) = has cards i
test_row_declared cards (Is i k v) = true
test_row_declared cards (IsNot i k v) = true
test_row_declared cards (Covers i k j) = true
