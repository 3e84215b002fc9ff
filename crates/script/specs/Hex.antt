-- What bytes a text of hex digits spells.
use Rattle.std.specs.Prelude.{◌≡◌, ℕ, ◌+◌, ◌-◌, ◌*◌, true, if◌then◌else◌, ◌&&◌, List, [], ◌∷◌, is_some, Some, None, Option, nat_le}
use Rattle.std.specs.Option.{option_map}
use Rattle.script.specs.Words.{blank, past_blanks}

-- The value of a hex digit: `0` to `9`, `a` to `f`, `A` to `F`. Any other byte has none.
abbrev pub digit_value : ℕ → Option ℕ
digit_value b =
    if nat_le 48 b && nat_le b 57 then Some (b - 48)
    else if nat_le 97 b && nat_le b 102 then Some (b - 97 + 10)
    else if nat_le 65 b && nat_le b 70 then Some (b - 65 + 10)
    else None

-- `Spells text bytes`: the text has a pair of digits for each of the bytes, in their order.
pub data Spells : List ℕ → List ℕ → Type 0 where
  -- The empty text spells no bytes.
  no_more : Spells [] []
  -- A blank before a text changes nothing.
  after_blank : {b : ℕ} {text bytes : List ℕ} → blank b ≡ true → Spells text bytes → Spells (b ∷ text) bytes
  -- Two digits before a text, the high one first and no blank between them, spell one byte more.
  pair : {a b high low : ℕ} {text bytes : List ℕ} → digit_value a ≡ Some high → digit_value b ≡ Some low → Spells text bytes → Spells (a ∷ b ∷ text) ((16 * high + low) ∷ bytes)

-- No text spells two different strings of bytes.
abbrev pub OneSpelling : Type 0
OneSpelling = (text xs ys : List ℕ) → Spells text xs → Spells text ys → xs ≡ ys

-- `Mask word mask`: the word is four digits, the one of most weight first, and writes the mask.
pub data Mask : List ℕ → ℕ → Type 0 where
  four_digits : {a b c d p q r s : ℕ} → digit_value a ≡ Some p → digit_value b ≡ Some q → digit_value c ≡ Some r → digit_value d ≡ Some s → Mask (a ∷ b ∷ c ∷ d ∷ []) (4096 * p + 256 * q + 16 * r + s)

-- What follows is what a reader takes off the front of a text.

-- The byte of two digits, where both are digits.
abbrev pub both_digits : Option ℕ → Option ℕ → Option ℕ
both_digits None low = None
both_digits (Some high) None = None
both_digits (Some high) (Some low) = Some (16 * high + low)

abbrev pub byte_value : ℕ → ℕ → Option ℕ
byte_value a b = both_digits (digit_value a) (digit_value b)

-- The byte that the first two digits of a text spell, and the text after them.
abbrev pub leading_pair : List ℕ → Option (ℕ × List ℕ)
leading_pair [] = None
leading_pair (a ∷ []) = None
leading_pair (a ∷ b ∷ text) = option_map (λ value. (value, text)) (byte_value a b)

-- Blanks aside, the text begins with a pair: there is a byte to keep.
abbrev pub Opens : List ℕ → Type 0
Opens text = is_some (leading_pair (past_blanks text)) ≡ true
