-- What follows `request` and `rule`: numbers, one after the other.
use Rattle.std.specs.Prelude.{ℕ, List, [], ◌∷◌}
use Rattle.script.specs.Words.{Blanks}
use Rattle.script.specs.Numbers.{Leads}

-- `Series text numbers`: the text is words, which write the numbers in their order. Each is 255 at most.
pub data Series : List ℕ → List ℕ → Type 0 where
  -- A text of blanks writes no numbers.
  ended : {text : List ℕ} → Blanks text → Series text []
  -- A first word that writes a number comes before what writes the others.
  next : {text rest : List ℕ} {n : ℕ} {numbers : List ℕ} → Leads text n rest → Series rest numbers → Series text (n ∷ numbers)

-- The text begins with a number, so there is one to keep.
pub record Starts (text : List ℕ) : Type 0 where
  pub first : ℕ
  pub rest : List ℕ
  pub leads : Leads text first rest

-- The text begins with a command's number and a name, so there is a name to keep.
pub record Named (text : List ℕ) : Type 0 where
  pub command : ℕ
  pub more : List ℕ
  pub leads : Leads text command more
  pub starts : Starts more
