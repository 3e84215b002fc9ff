-- What follows `store` and `filter`.
use Rattle.std.specs.Prelude.{ℕ, List, codes}
use Rattle.script.specs.Words.{Begins, Alone}
use Rattle.script.specs.Numbers.{LoneNumber, Leads}
use Rattle.script.specs.Hex.{Mask}

-- `Sized text n`: the text is the word `list` and one more word, which writes the number n.
pub record Sized (text : List ℕ) (n : ℕ) : Type 0 where
  pub more : List ℕ
  pub begun : Begins text (codes "list") more
  pub number : LoneNumber more n

-- `Filters text k m`: the text is two words. The first writes the number k, 255 at most, and the second the mask m.
pub record Filters (text : List ℕ) (k m : ℕ) : Type 0 where
  pub more : List ℕ
  pub last : List ℕ
  pub leads : Leads text k more
  pub alone : Alone more last
  pub mask : Mask last m
