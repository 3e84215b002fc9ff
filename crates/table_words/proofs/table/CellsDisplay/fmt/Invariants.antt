use Rattle.std.proofs.Common.{take}
use Rattle.std.specs.Fmt.{HasWritten, IsPlainFormatter}
use Rattle.words.specs.Lines.{texts_from}
use Rattle.certificates.specs.Certificates.{allows}
use Rattle.certificates.specs.Views.{certificate_of}
use Rattle.table_words.specs.Tables.{cell_words}
use Rattle.table_words.proofs.table.CellsDisplay.fmt.Given as goal

-- the texts of the stamps so far are written
abbrev pub invariant-loop-column : goal.invariant-loop-column
invariant-loop-column g l =
    IsPlainFormatter l.initial.f
    → HasWritten g.W.Write.write_str_gives l.initial.f (texts_from (λ n s. cell_words (allows (certificate_of l.self.certificate.now) l.self.row s)) 0 (take l.column-index l.column-items)) l.f
