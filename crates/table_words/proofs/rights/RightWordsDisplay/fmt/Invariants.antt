use Rattle.std.specs.Fmt.{HasWritten, IsPlainFormatter}
use Rattle.words.specs.Lines.{texts_below}
use Rattle.table_words.specs.Tables.{right_word}
use Rattle.table_words.proofs.rights.RightWordsDisplay.fmt.Given as goal

-- the rights so far are written
abbrev pub invariant-loop-right : goal.invariant-loop-right
invariant-loop-right g l =
    IsPlainFormatter l.initial.f
    → HasWritten g.W.Write.write_str_gives l.initial.f (texts_below (right_word l.mask) l.right) l.f
