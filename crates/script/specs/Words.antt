-- How a line falls into words.
use Rattle.std.specs.Prelude.{◌≡◌, ℕ, ◌<◌, Bool, not, ◌||◌, List, [], ◌∷◌, ◌++◌, ◌==◌, length, drop, ⊤, IsTrue, IsFalse, All}
use Rattle.std.specs.List.{AllPass, before_first, position_or_len}

-- A blank is a space, a tab or a carriage return.
abbrev pub blank : ℕ → Bool
blank b = b == 32 || (b == 9 || b == 13)

-- Every byte is a blank.
abbrev pub Blanks : List ℕ → Type 0
Blanks text = AllPass blank text

-- No byte is a blank.
abbrev pub Solid : List ℕ → Type 0
Solid text = All (λ b. IsFalse (blank b)) text

-- A word has at least one byte, and no blank.
abbrev pub Word : List ℕ → Type 0
Word text = (0 < length text) × Solid text

-- A word before this text is over: the text is at its end, or begins with a blank.
abbrev pub Over : List ℕ → Type 0
Over [] = ⊤
Over (b ∷ text) = IsTrue (blank b)

-- `Begins line word rest`: the line is a margin of blanks, then its first word, then the rest.
pub record Begins (line word rest : List ℕ) : Type 0 where
  pub margin : List ℕ
  pub blanks : Blanks margin
  pub solid : Word word
  pub over : Over rest
  pub whole : line ≡ margin ++ (word ++ rest)

-- `Alone text word`: the word is all that the text has, blanks aside.
pub record Alone (text word : List ℕ) : Type 0 where
  pub tail : List ℕ
  pub begun : Begins text word tail
  pub ended : Blanks tail

-- What follows is what a reader takes off the front of a text.

-- The text from its first byte on that is no blank.
abbrev pub past_blanks : List ℕ → List ℕ
past_blanks text = drop (position_or_len (λ b. not (blank b)) text) text

-- The bytes of a text before its first blank.
abbrev pub front_word : List ℕ → List ℕ
front_word text = before_first blank text

-- The text from its first blank on.
abbrev pub past_word : List ℕ → List ℕ
past_word text = drop (position_or_len blank text) text
