-- A value where null may stand and its byte give back one another.
use Rattle.std.proofs.Common.{◌≡◌, ℕ, [], ◌∷◌, Some, None, Option, refl, arith}
use Rattle.std.proofs.lemmas.Bool.Decides.{nat_tests}
use Rattle.tapes.specs.Orders.{Case}
use Rattle.tapes.specs.Values.{value_on_tape, value_read}

pub from_byte : (v : Option ℕ) → value_read (value_on_tape v) ≡ v
from_byte None = refl
from_byte (Some v) = grind (arith, nat_tests)

pub to_byte : (n : ℕ) → value_on_tape (value_read n) ≡ n
to_byte n = grind (arith, nat_tests)

-- so four bytes that were read and written again are the same operands of an order
pub same_case : (number n a b c d a' b' c' d' : ℕ) → a ≡ a' → b ≡ b' → c ≡ c' → d ≡ d' → ◌≡◌ {A = Case} (record { number = number; values = n ∷ a ∷ b ∷ c ∷ d ∷ [] }) (record { number = number; values = n ∷ a' ∷ b' ∷ c' ∷ d' ∷ [] })
same_case number n a b c d a' b' c' d' p q r s = λ i. record { number = number; values = n ∷ p i ∷ q i ∷ r i ∷ s i ∷ [] }
