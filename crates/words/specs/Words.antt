-- Kinds, values, tests and steps in words.
use Rattle.std.specs.Prelude.{ℕ, List, ◌++◌, ◌==◌, Some, None, Option, if◌then◌else◌, codes, decimal}
use Rattle.model.specs.declared.kind.Kind.{Kind}
use Rattle.model.specs.declared.kind.Kind.TheVariants.{Subject, Object}
use Rattle.scheme.specs.declared.step.Step.{Step}
use Rattle.scheme.specs.declared.step.Step.TheVariants.{Enter, Delete, Set, Create, Destroy}
use Rattle.scheme.specs.declared.test.Test.{Test}
use Rattle.scheme.specs.declared.test.Test.TheVariants.{Holds, Is, IsNot, Covers}

abbrev pub kind_words : Kind → List ℕ
kind_words Subject = codes "card"
kind_words Object = codes "thing"

abbrev pub value_words : Option ℕ → List ℕ
value_words None = codes "null"
value_words (Some v) = decimal v

-- What a step sets is shown as a value; 255, which is a value of no scale and which no scheme sets, is shown as null.
abbrev pub value_set : ℕ → Option ℕ
value_set v = if v == 255 then None else Some v

-- the cell [i, j]
abbrev pub cell_words : (i j : ℕ) → List ℕ
cell_words i j = codes "[" ++ (decimal i ++ (codes ", " ++ (decimal j ++ codes "]")))

-- attribute k of parameter i after the word "attribute", and then the rest
abbrev pub of_then : (k i : ℕ) → List ℕ → List ℕ
of_then k i rest = decimal k ++ (codes " of " ++ (decimal i ++ rest))

abbrev pub test_words : Test → List ℕ
test_words (Holds r i j) = codes "right " ++ (decimal r ++ (codes " is in " ++ cell_words i j))
test_words (Is i k v) = codes "attribute " ++ of_then k i (codes " is " ++ value_words v)
test_words (IsNot i k v) = codes "attribute " ++ of_then k i (codes " is not " ++ value_words v)
test_words (Covers i k j) = codes "attribute " ++ of_then k i (codes " covers attribute " ++ (decimal k ++ (codes " of " ++ decimal j)))

abbrev pub step_words : Step → List ℕ
step_words (Enter r i j) = codes "enter right " ++ (decimal r ++ (codes " into " ++ cell_words i j))
step_words (Delete r i j) = codes "delete right " ++ (decimal r ++ (codes " from " ++ cell_words i j))
step_words (Set i k v) = codes "set attribute " ++ of_then k i (codes " to " ++ value_words (value_set v))
step_words (Create i) = codes "create " ++ decimal i
step_words (Destroy i) = codes "destroy " ++ decimal i
