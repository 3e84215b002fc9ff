use Rattle.std.proofs.Common.{take}
use Rattle.std.specs.Fmt.{HasWritten, IsPlainFormatter}
use Rattle.words.specs.Lines.{texts_from}
use Rattle.table_words.specs.Tapes.{byte_words}
use Rattle.table_words.proofs.tape.DigitsDisplay.fmt.Given as goal

-- the bytes so far are written
abbrev pub invariant-loop-byte : goal.invariant-loop-byte
invariant-loop-byte g l =
    IsPlainFormatter l.initial.f
    → HasWritten g.W.Write.write_str_gives l.initial.f (texts_from (λ n b. byte_words b) 0 (take l.byte-index l.byte-items)) l.f
