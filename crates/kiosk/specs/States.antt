-- How a state is printed.
use Rattle.std.specs.Prelude.{ℕ, List, ◌++◌, codes}
use Rattle.protection.specs.States.{Protection}
use Rattle.register.specs.States.{State}
use Rattle.words.specs.Lines.{texts_below}
use Rattle.words.specs.States.{entry_line, cell_line, count_line}

-- the entries, by rising name
abbrev pub entry_lines : Protection → List ℕ
entry_lines p = texts_below (λ n. entry_line n (p.entry n)) 64

-- the cells of a row that are not empty, by rising column
abbrev pub row_lines : Protection → (row : ℕ) → List ℕ
row_lines p s = texts_below (λ o. cell_line s o (p.cells s o)) 64

-- the cells that are not empty, by rising row
abbrev pub cell_lines : Protection → List ℕ
cell_lines p = texts_below (row_lines p) 64

-- entries, cells and count, and at last `end`
abbrev pub state_words : State → List ℕ
state_words s = entry_lines s.protection ++ (cell_lines s.protection ++ (count_line s.count ++ codes "end"))
