use Rattle.std.proofs.Common.{take}
use Rattle.std.specs.Fmt.{HasWritten, IsPlainFormatter}
use Rattle.words.specs.Lines.{texts_from}
use Rattle.words.specs.Listings.{step_line}
use Rattle.words.proofs.listing.StepLinesDisplay.fmt.Given as goal

-- the lines so far are written
abbrev pub invariant-loop-number : goal.invariant-loop-number
invariant-loop-number g l =
    IsPlainFormatter l.initial.f
    → HasWritten g.W.Write.write_str_gives l.initial.f (texts_from step_line 0 (take l.number-counter l.step-items)) l.f
