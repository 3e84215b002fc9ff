use Rattle.std.proofs.Common.{take}
use Rattle.std.specs.Fmt.{HasWritten, IsPlainFormatter}
use Rattle.words.specs.Lines.{texts_from}
use Rattle.table_words.specs.Tables.{head_words}
use Rattle.table_words.proofs.table.HeadsDisplay.fmt.Given as goal

-- the texts of the stamps so far are written
abbrev pub invariant-loop-stamp : goal.invariant-loop-stamp
invariant-loop-stamp g l =
    IsPlainFormatter l.initial.f
    → HasWritten g.W.Write.write_str_gives l.initial.f (texts_from (λ n s. head_words s) 0 (take l.stamp-index l.stamp-items)) l.f
