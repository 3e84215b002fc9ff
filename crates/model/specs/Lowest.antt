-- The lowest number of which something holds.
use Rattle.std.specs.Prelude.{ℕ, ◌<◌}

-- it holds of nothing below n
abbrev pub NoneBelow : (P : ℕ → Type 0) → ℕ → Type 0
NoneBelow P n = (m : ℕ) → m < n → P m → ⊥

abbrev pub Lowest : (P : ℕ → Type 0) → ℕ → Type 0
Lowest P n = P n × NoneBelow P n
