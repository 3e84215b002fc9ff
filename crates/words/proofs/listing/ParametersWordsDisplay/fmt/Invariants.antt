use Rattle.std.specs.Fmt.{HasWritten, IsPlainFormatter}
use Rattle.scheme.specs.Views.{view}
use Rattle.words.specs.Lines.{texts_below}
use Rattle.words.specs.Listings.{parameter_words}
use Rattle.words.specs.Roles.{role}
use Rattle.words.proofs.listing.ParametersWordsDisplay.fmt.Given as goal

-- the parameters so far are written
abbrev pub invariant-loop-i : goal.invariant-loop-i
invariant-loop-i g l =
    IsPlainFormatter l.initial.f
    → HasWritten g.W.Write.write_str_gives l.initial.f (texts_below (λ i. parameter_words i (role (view l.command) i)) l.i) l.f
