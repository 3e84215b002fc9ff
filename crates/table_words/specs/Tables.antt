-- A certificate as a table for people: its stamps down and across, and in the cells what the one is allowed on the other.
use Rattle.std.specs.Prelude.{ℕ, cond, List, [], ◌++◌, ◌==◌, codes, decimal}
use Rattle.model.specs.declared.stamp.Stamp.{Stamp}
use Rattle.model.specs.Masks.{has}
use Rattle.certificates.specs.Certificates.{Certificate, allows}
use Rattle.words.specs.Lines.{texts_below, texts_from}
use Rattle.words.specs.Stamps.{stamp_words}

-- a right that the mask has, after a space; of another nothing is said
abbrev pub right_word : (mask right : ℕ) → List ℕ
right_word m r = cond (has m r) (codes " " ++ decimal r) []

-- the rights of a mask, by rising number
abbrev pub right_words : (mask : ℕ) → List ℕ
right_words m = texts_below (right_word m) 16

-- A cell holds the rights, or a dash where there is none.
abbrev pub cell_words : (mask : ℕ) → List ℕ
cell_words m = cond (m == 0) (codes " - |") (right_words m ++ codes " |")

-- a stamp at the head of a column or of a row
abbrev pub head_words : Stamp → List ℕ
head_words s = codes " " ++ (stamp_words s ++ codes " |")

abbrev pub heads : List Stamp → List ℕ
heads stamps = texts_from (λ n s. head_words s) 0 stamps

-- what the stamp is allowed on each stamp that is listed
abbrev pub cells : Certificate → (row : Stamp) → List ℕ
cells c u = texts_from (λ n v. cell_words (allows c u v)) 0 c.stamps

-- the line of a stamp
abbrev pub row_words : Certificate → (row : Stamp) → List ℕ
row_words c u = codes "|" ++ (head_words u ++ (cells c u ++ codes "\n"))

-- a line for each stamp that is listed
abbrev pub rows : Certificate → List ℕ
rows c = texts_from (λ n u. row_words c u) 0 c.stamps

-- The stamps stand across, then come the lines, and at last `end`.
abbrev pub table_words : Certificate → List ℕ
table_words c = codes "| |" ++ (heads c.stamps ++ (codes "\n" ++ (rows c ++ codes "end")))
