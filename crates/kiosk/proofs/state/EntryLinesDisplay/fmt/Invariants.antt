use Rattle.std.specs.Fmt.{HasWritten, IsPlainFormatter}
use Rattle.register.specs.Views.{state_of}
use Rattle.words.specs.Lines.{texts_below}
use Rattle.words.specs.States.{entry_line}
use Rattle.kiosk.proofs.state.EntryLinesDisplay.fmt.Given as goal

-- the texts of the numbers so far are written
abbrev pub invariant-loop-name : goal.invariant-loop-name
invariant-loop-name g l =
    IsPlainFormatter l.initial.f
    → HasWritten g.W.Write.write_str_gives l.initial.f (texts_below (λ n. entry_line n ((state_of l.self.0.now).protection.entry n)) l.name) l.f
