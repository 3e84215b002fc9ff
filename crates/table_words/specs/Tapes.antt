-- A tape in hex digits, after how many bytes it has.
use Rattle.std.specs.Prelude.{ℕ, ◌/◌, cond, List, [], ◌∷◌, ◌++◌, ◌==◌, length, codes, decimal}
use Rattle.words.specs.Lines.{texts_from}
use Rattle.words.specs.Masks.{hex_digit}

-- a byte as two hex digits, in upper case
abbrev pub byte_words : (byte : ℕ) → List ℕ
byte_words b = hex_digit (b / 16) ∷ hex_digit b ∷ []

-- the bytes one after the other, with nothing between
abbrev pub digits_of : List ℕ → List ℕ
digits_of tape = texts_from (λ n b. byte_words b) 0 tape

-- Of a tape without bytes only the length is said.
abbrev pub tape_words : List ℕ → List ℕ
tape_words tape = cond (length tape == 0) (codes "0") (decimal (length tape) ++ (codes " " ++ digits_of tape))
