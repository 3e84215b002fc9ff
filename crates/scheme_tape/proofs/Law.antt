-- What an encoding brings to the law of readings, and that law.
use Rattle.std.proofs.Common.{ℕ, List, refl}
use Rattle.model.specs.declared.counts.Counts.{Counts}
use Rattle.model.specs.Answers.{Answer}
use Rattle.scheme.specs.Commands.{Command}
use Rattle.tapes.proofs.Law.{Encoding, one_answer, accepted_as_encoded}
use Rattle.scheme_tape.specs.Drafts.{Draft, scheme_grammar}
use Rattle.scheme_tape.specs.Reading.{Encodes, SchemeRead, AcceptedExactly, OneReading}
use Rattle.scheme_tape.proofs.Language.{scheme_language}
use Rattle.scheme_tape.proofs.Lengths.{encoding_short}
use Rattle.scheme_tape.proofs.Running.{encoding_whole}

pub scheme_encoding : (c : Counts) → Encoding (scheme_grammar c) (Encodes c)
scheme_encoding c = record {
  of = λ (d : Draft). d.finished;
  short = λ tape commands encodes. encoding_short c tape commands encodes.0 encodes.1;
  read = λ tape commands encodes. (_, (encoding_whole c tape commands encodes.0 encodes.1, refl));
}

pub one_reading : (c : Counts) → OneReading c
one_reading c = one_answer (scheme_language c) (Encodes c) (scheme_encoding c)

pub accepted_exactly : (c : Counts) (tape : List ℕ) (answer : Answer (List Command)) → SchemeRead c tape answer → AcceptedExactly c tape answer
accepted_exactly c = accepted_as_encoded (scheme_language c) (Encodes c) (scheme_encoding c)
