use Rattle.tapes.proofs.Making.{Reached}
use Rattle.certificates.specs.Views.{certificate_of}
use Rattle.certificates.proofs.Language.{certificate_making}
use Rattle.certificates.proofs.reader.read_orders.Given as goal

abbrev pub invariant-loop-placed : goal.invariant-loop-placed
invariant-loop-placed l = record {
  can : (goal.iterator-loop-placed).can_next l.placed-iterator;
  ends : (goal.iterator-loop-placed).is_finite l.placed-iterator;
  reached : Reached (certificate_making l.counts) l.tape l.placed-iterator (certificate_of l.certificate);
}
