use Rattle.tapes.proofs.Turns.{Stands}
use Rattle.scheme_tape.specs.Views.{draft_of}
use Rattle.scheme_tape.proofs.Language.{scheme_language}
use Rattle.scheme_tape.proofs.reader.read_by.Given as goal

abbrev pub invariant-loop-placed : goal.invariant-loop-placed
invariant-loop-placed l = record {
  can : (goal.iterator-loop-placed).can_next l.placed-iterator;
  ends : (goal.iterator-loop-placed).is_finite l.placed-iterator;
  stands : Stands (scheme_language l.counts) l.tape l.placed-iterator (draft_of l.draft);
}
