-- Bytes that are put into a buffer.
use Rattle.std.specs.Prelude.{◌≡◌, ℕ, ◌+◌, List, ◌++◌, length, take, drop}
use Rattle.std.specs.List.{flat_map}
use Rattle.certificates.specs.Encoding.{code}
use Rattle.certificates.specs.Items.{Item}

-- These bytes stand from one place of the buffer on, up to the next; all others are as they were.
pub record Put (at : ℕ) (bytes before : List ℕ) (next : ℕ) (after : List ℕ) : Type 0 where
  pub up_to : next ≡ at + length bytes
  pub stand : after ≡ take at before ++ (bytes ++ drop next before)

-- the bytes of items, one after the other
abbrev pub bytes_of : List Item → List ℕ
bytes_of items = flat_map code items
