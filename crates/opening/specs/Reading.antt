-- What it is to read an opening tape.
use Rattle.std.specs.Prelude.{ℕ, List}
use Rattle.model.specs.declared.counts.Counts.{Counts}
use Rattle.model.specs.Answers.{Answer}
use Rattle.tapes.specs.declared.tape.Tape.TheVariants.{Opening}
use Rattle.tapes.specs.Answering.{TapeRead, AcceptedAsEncoded, OneAnswer}
use Rattle.tapes.specs.Grammars.{Grammar}
use Rattle.tapes.specs.ItemTapes.{items_grammar, EncodesItems}
use Rattle.opening.specs.Encoding.{code}
use Rattle.opening.specs.Items.{Item}
use Rattle.opening.specs.Rules.{broken_after}

-- The language of the opening tape: what has been read are the items so far. A tape may end after each.
abbrev pub opening_grammar : Counts → (limit : ℕ) → Grammar Item (List Item)
opening_grammar c limit = items_grammar code (broken_after c limit)

-- The tape is not too long, it is the encoding of these items, and they are well-formed. A right may be repeated, so there are
-- well-formed items whose encoding is longer than a tape.
abbrev pub Encodes : Counts → (limit : ℕ) → List ℕ → List Item → Type 0
Encodes c limit = EncodesItems code (broken_after c limit)

-- Accepted: the tape encodes these items. Refused, in layer 2: for its length, or at the first order that breaks a rule, by the
-- lowest rule that is broken there.
abbrev pub OpeningRead : Counts → (limit : ℕ) → List ℕ → Answer (List Item) → Type 0
OpeningRead c limit = TapeRead Opening (opening_grammar c limit) (Encodes c limit)

-- A tape is accepted exactly if it is the encoding of well-formed items, and then with these.
abbrev pub AcceptedExactly : Counts → (limit : ℕ) → List ℕ → Answer (List Item) → Type 0
AcceptedExactly c limit = AcceptedAsEncoded (Encodes c limit)

-- No tape has two readings.
abbrev pub OneReading : Counts → (limit : ℕ) → Type 0
OneReading c limit = OneAnswer Opening (opening_grammar c limit) (Encodes c limit)
