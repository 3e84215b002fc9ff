-- What it is to read a certificate tape.
use Rattle.std.specs.Prelude.{ℕ, List}
use Rattle.model.specs.declared.counts.Counts.{Counts}
use Rattle.model.specs.Answers.{Answer}
use Rattle.tapes.specs.declared.tape.Tape.TheVariants.{Certificate as CertificateTape}
use Rattle.tapes.specs.Answering.{TapeRead, AcceptedAsEncoded, OneAnswer}
use Rattle.tapes.specs.Grammars.{Grammar}
use Rattle.tapes.specs.ItemTapes.{items_grammar, EncodesMade}
use Rattle.certificates.specs.Certificates.{Certificate}
use Rattle.certificates.specs.Encoding.{code}
use Rattle.certificates.specs.Items.{Item, listed_by}
use Rattle.certificates.specs.Rules.{broken_after}

-- The language of the certificate tape: what has been read are the items so far. A tape may end after each.
abbrev pub certificate_grammar : Counts → Grammar Item (List Item)
certificate_grammar c = items_grammar code (broken_after c)

-- The tape is the encoding of well-formed items, and they list this certificate.
abbrev pub Encodes : Counts → List ℕ → Certificate → Type 0
Encodes c = EncodesMade code (broken_after c) listed_by

-- Accepted: the tape encodes this certificate. Refused, in layer 3: for its length, or at the first order that breaks a rule, by
-- the lowest rule that is broken there.
abbrev pub CertificateRead : Counts → List ℕ → Answer Certificate → Type 0
CertificateRead c = TapeRead CertificateTape (certificate_grammar c) (Encodes c)

-- A tape is accepted exactly if it encodes a certificate, and then as that.
abbrev pub AcceptedExactly : Counts → List ℕ → Answer Certificate → Type 0
AcceptedExactly c = AcceptedAsEncoded (Encodes c)

-- No tape has two readings.
abbrev pub OneReading : Counts → Type 0
OneReading c = OneAnswer CertificateTape (certificate_grammar c) (Encodes c)
