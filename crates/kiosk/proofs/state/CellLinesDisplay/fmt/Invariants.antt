use Rattle.std.specs.Fmt.{HasWritten, IsPlainFormatter}
use Rattle.register.specs.Views.{state_of}
use Rattle.words.specs.Lines.{texts_below}
use Rattle.kiosk.specs.States.{row_lines}
use Rattle.kiosk.proofs.state.CellLinesDisplay.fmt.Given as goal

-- the texts of the numbers so far are written
abbrev pub invariant-loop-row : goal.invariant-loop-row
invariant-loop-row g l =
    IsPlainFormatter l.initial.f
    → HasWritten g.W.Write.write_str_gives l.initial.f (texts_below (λ n. row_lines (state_of l.register).protection n) l.row) l.f
