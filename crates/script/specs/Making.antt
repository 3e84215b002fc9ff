-- What follows `make`: a text of hex digits for the bans. Before it, and before a stroke, the size of the buffer may stand.
use Rattle.std.specs.Prelude.{ℕ, List}
use Rattle.script.specs.Hex.{Opens}
use Rattle.script.specs.Numbers.{LoneNumber}
use Rattle.script.specs.Sides.{Sides, Unparted}

-- the size where none is said: any certificate finds room in it
abbrev pub full_size : ℕ
full_size = 5312

-- `Buffered text size bans`: the size is what the text says of the buffer, and the bans are what it says besides.
pub data Buffered : List ℕ → ℕ → List ℕ → Type 0 where
  -- Without a stroke, all of the text is for the bans.
  unsized : {text : List ℕ} → Unparted text → Buffered text full_size text
  -- With one, the size is the number before it, and the bans come after it.
  sized : {text left right : List ℕ} {n : ℕ} → Sides text left right → LoneNumber left n → Buffered text n right

-- The size can be read and the bans begin with a pair of digits, so there is a byte to keep.
pub record OpensBans (text : List ℕ) : Type 0 where
  pub size : ℕ
  pub bans : List ℕ
  pub buffered : Buffered text size bans
  pub opens : Opens bans
