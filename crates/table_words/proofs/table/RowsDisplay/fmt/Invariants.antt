use Rattle.std.proofs.Common.{take}
use Rattle.std.specs.Fmt.{HasWritten, IsPlainFormatter}
use Rattle.words.specs.Lines.{texts_from}
use Rattle.certificates.specs.Views.{certificate_of}
use Rattle.table_words.specs.Tables.{row_words}
use Rattle.table_words.proofs.table.RowsDisplay.fmt.Given as goal

-- the texts of the stamps so far are written
abbrev pub invariant-loop-stamp : goal.invariant-loop-stamp
invariant-loop-stamp g l =
    IsPlainFormatter l.initial.f
    → HasWritten g.W.Write.write_str_gives l.initial.f (texts_from (λ n s. row_words (certificate_of l.certificate) s) 0 (take l.stamp-index l.stamp-items)) l.f
