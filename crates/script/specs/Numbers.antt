-- What number a word of decimal digits writes.
use Rattle.std.specs.Prelude.{◌≡◌, ℕ, ◌+◌, ◌-◌, ◌*◌, ◌^◌, ◌≤◌, if◌then◌else◌, ◌&&◌, List, [], ◌∷◌, length, Some, None, Option, nat_le}
use Rattle.script.specs.Words.{Begins, Alone}

-- The value of a decimal digit, `0` to `9`. Any other byte has none.
abbrev pub decimal_value : ℕ → Option ℕ
decimal_value b = if nat_le 48 b && nat_le b 57 then Some (b - 48) else None

-- `Number word n`: the word is one digit or more, and writes the number n.
pub data Number : List ℕ → ℕ → Type 0 where
  -- A digit alone writes its value.
  one_digit : {b d : ℕ} → decimal_value b ≡ Some d → Number (b ∷ []) d
  -- A digit before others weighs ten to the power of how many they are.
  more_digits : {b d n : ℕ} {word : List ℕ} → decimal_value b ≡ Some d → Number word n → Number (b ∷ word) (d * 10 ^ length word + n)

-- `Leads text n rest`: the first word of the text writes the number n, 255 at most, and the rest comes after it.
pub record Leads (text : List ℕ) (n : ℕ) (rest : List ℕ) : Type 0 where
  pub word : List ℕ
  pub begun : Begins text word rest
  pub number : Number word n
  pub within : n ≤ 255

-- `LoneNumber text n`: the text has one word, which writes the number n, 999999 at most.
pub record LoneNumber (text : List ℕ) (n : ℕ) : Type 0 where
  pub digits : List ℕ
  pub alone : Alone text digits
  pub number : Number digits n
  pub within : n ≤ 999999

-- What follows is what a reader takes off the front of a word.

-- `Longer m b n`: the byte is a digit, and n is m with that digit after it.
pub record Longer (m b n : ℕ) : Type 0 where
  pub digit : ℕ
  pub is : decimal_value b ≡ Some digit
  pub sum : n ≡ 10 * m + digit
