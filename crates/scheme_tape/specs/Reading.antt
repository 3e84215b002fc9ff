-- What it is to read a scheme tape.
use Rattle.std.specs.Prelude.{◌≡◌, ℕ, true, List}
use Rattle.model.specs.declared.counts.Counts.{Counts}
use Rattle.model.specs.Answers.{Answer}
use Rattle.scheme.specs.Commands.{Command}
use Rattle.scheme.specs.Schemes.{well_formed}
use Rattle.tapes.specs.declared.tape.Tape.TheVariants.{Scheme}
use Rattle.tapes.specs.Answering.{TapeRead, AcceptedAsEncoded, OneAnswer}
use Rattle.scheme_tape.specs.Drafts.{scheme_grammar}
use Rattle.scheme_tape.specs.Encoding.{encode}

-- the tape is the encoding of these commands, and they are well-formed
abbrev pub Encodes : Counts → List ℕ → List Command → Type 0
Encodes c tape commands = (tape ≡ encode commands) × (well_formed c commands ≡ true)

-- Accepted: the tape encodes these commands. Refused, in layer 1: for its length, or at the first order (or the end) that
-- breaks a rule, by the lowest rule that is broken there.
abbrev pub SchemeRead : Counts → List ℕ → Answer (List Command) → Type 0
SchemeRead c = TapeRead Scheme (scheme_grammar c) (Encodes c)

-- A tape is accepted exactly if it is the encoding of well-formed commands, and then with these.
abbrev pub AcceptedExactly : Counts → List ℕ → Answer (List Command) → Type 0
AcceptedExactly c = AcceptedAsEncoded (Encodes c)

-- No tape has two readings.
abbrev pub OneReading : Counts → Type 0
OneReading c = OneAnswer Scheme (scheme_grammar c) (Encodes c)
