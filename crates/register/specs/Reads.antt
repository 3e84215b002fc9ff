-- What is asked of a register.
use Rattle.std.specs.Prelude.{ℕ, Bool, false, ◌&&◌, Some, None, Option, nat_lt}
use Rattle.model.specs.declared.stamp.Stamp.{Stamp}
use Rattle.rulings.specs.declared.question.Question.{Question}
use Rattle.protection.specs.States.{Protection}

-- The ruling's answer, where two entries stand; else no.
abbrev pub asked_of : (says : Question → Bool) → (row column right cell : ℕ) → Option Stamp → Option Stamp → Bool
asked_of says s o r cell None column = false
asked_of says s o r cell (Some row) None = false
asked_of says s o r cell (Some row) (Some column) =
    says (record { row = s; column = o; right = r; row_stamp = row; column_stamp = column; cell = cell })

-- No for a name without an entry and for a right over 15; else what the ruling says of the two stamps and the cell.
abbrev pub ruled : (says : Question → Bool) → Protection → (row column right : ℕ) → Bool
ruled says p s o r = nat_lt r 16 && asked_of says s o r (p.cells s o) (p.entry s) (p.entry o)
