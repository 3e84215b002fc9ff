-- A stamp in words.
use Rattle.std.specs.Prelude.{ℕ, List, ◌++◌, Some, None, Option, codes, decimal, slice_index_or}
use Rattle.model.specs.declared.stamp.Stamp.{Stamp}
use Rattle.words.specs.Words.{kind_words}

-- a value in decimal, and null as FF
abbrev pub attribute_word : Option ℕ → List ℕ
attribute_word None = codes "FF"
attribute_word (Some v) = decimal v

-- attribute k of these
abbrev pub word_of : List (Option ℕ) → (k : ℕ) → List ℕ
word_of attributes k = attribute_word (slice_index_or attributes k None)

-- the four attributes of a stamp, by their numbers
abbrev pub attribute_words : List (Option ℕ) → List ℕ
attribute_words xs = word_of xs 0 ++ (codes " " ++ (word_of xs 1 ++ (codes " " ++ (word_of xs 2 ++ (codes " " ++ word_of xs 3)))))

-- its kind, and then its attributes
unfoldable pub stamp_words : Stamp → List ℕ
stamp_words s = kind_words s.kind ++ (codes " " ++ attribute_words s.attributes)
