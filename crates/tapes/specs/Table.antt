-- The table of orders: byte, number of operands, and the tape that the order belongs to.
use Rattle.std.specs.Prelude.{◌≡◌, ℕ, ◌<◌, List, [], ◌∷◌, length, Option, ◌==◌, slice_index_or}
use Rattle.std.specs.List.{find}
use Rattle.tapes.specs.declared.table.OrderRow.{OrderRow}
use Rattle.tapes.specs.declared.tape.Tape.{Tape}
use Rattle.tapes.specs.declared.tape.Tape.TheVariants.{Scheme, Opening, Certificate, Bans}

abbrev pub row : (byte operands : ℕ) → Tape → OrderRow
row byte operands tape = record { byte = byte; operands = operands; tape = tape }

abbrev pub rows : List OrderRow
rows =
    row 0x10 2 Scheme
    ∷ row 0x1F 0 Scheme
    ∷ row 0x20 3 Scheme
    ∷ row 0x21 3 Scheme
    ∷ row 0x22 3 Scheme
    ∷ row 0x23 3 Scheme
    ∷ row 0x30 3 Scheme
    ∷ row 0x31 3 Scheme
    ∷ row 0x32 3 Scheme
    ∷ row 0x33 1 Scheme
    ∷ row 0x34 1 Scheme
    ∷ row 0x40 5 Opening
    ∷ row 0x41 5 Opening
    ∷ row 0x42 3 Opening
    ∷ row 0x50 5 Certificate
    ∷ row 0x51 4 Certificate
    ∷ row 0x60 5 Bans
    ∷ []

-- the first row of that byte
abbrev pub find_row : ℕ → List OrderRow → Option OrderRow
find_row byte table = find (λ r. r.byte == byte) table

abbrev pub row_of : ℕ → Option OrderRow
row_of byte = find_row byte rows

-- the byte of the row at a place
abbrev pub byte_at : ℕ → ℕ
byte_at i = (slice_index_or rows i (row 0 0 Scheme)).byte

-- The table's rule: no byte has two rows, so the first row of a byte is its only one.
abbrev pub OneRow : Type 0
OneRow = (i j : ℕ) → i < length rows → j < length rows → byte_at i ≡ byte_at j → i ≡ j
