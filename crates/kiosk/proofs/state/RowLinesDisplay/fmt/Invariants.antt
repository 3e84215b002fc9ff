use Rattle.std.specs.Fmt.{HasWritten, IsPlainFormatter}
use Rattle.register.specs.Views.{state_of}
use Rattle.words.specs.Lines.{texts_below}
use Rattle.words.specs.States.{cell_line}
use Rattle.kiosk.proofs.state.RowLinesDisplay.fmt.Given as goal

-- the texts of the numbers so far are written
abbrev pub invariant-loop-column : goal.invariant-loop-column
invariant-loop-column g l =
    IsPlainFormatter l.initial.f
    → HasWritten g.W.Write.write_str_gives l.initial.f (texts_below (λ n. cell_line l.row n ((state_of l.self.register.now).protection.cells l.row n)) l.column) l.f
