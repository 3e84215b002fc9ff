-- The lines in which a state is printed, each with its line break.
use Rattle.std.specs.Prelude.{ℕ, cond, List, [], ◌++◌, ◌==◌, Some, None, Option, codes, decimal}
use Rattle.model.specs.declared.stamp.Stamp.{Stamp}
use Rattle.words.specs.Masks.{mask_words}
use Rattle.words.specs.Stamps.{stamp_words}

-- where no entry stands there is no line
abbrev pub entry_line : (name : ℕ) → Option Stamp → List ℕ
entry_line n None = []
entry_line n (Some stamp) = codes "entry " ++ (decimal n ++ (codes " " ++ (stamp_words stamp ++ codes "\n")))

-- an empty cell has no line
abbrev pub cell_line : (row column mask : ℕ) → List ℕ
cell_line s o m = cond (m == 0) [] (codes "cell " ++ (decimal s ++ (codes " " ++ (decimal o ++ (codes " " ++ (mask_words m ++ codes "\n"))))))

abbrev pub count_line : (count : ℕ) → List ℕ
count_line n = codes "count " ++ (decimal n ++ codes "\n")
