-- Stamps that can be read back from the bytes that list them.
use Rattle.std.specs.Prelude.{◌≡◌, ℕ, ◌≤◌, true, length}
use Rattle.model.specs.declared.stamp.Stamp.{Stamp}
use Rattle.model.specs.Stamps.{attribute_of}
use Rattle.tapes.specs.Values.{value_on_tape}
use Rattle.certificates.specs.Certificates.{Certificate, lists}

-- It has four attributes, and what is written for each is a byte.
pub record Spelt (s : Stamp) : Type 0 where
  pub four : length s.attributes ≡ 4
  pub bytes : (k : ℕ) → value_on_tape (attribute_of s k) ≤ 255

abbrev pub AllSpelt : Certificate → Type 0
AllSpelt c = (s : Stamp) → lists c s ≡ true → Spelt s
