use Rattle.tapes.proofs.Making.{Reached}
use Rattle.certificates.specs.Views.{bans_of}
use Rattle.certificates.proofs.BanLanguage.{ban_making}
use Rattle.certificates.proofs.ban_reader.read_orders.Given as goal

abbrev pub invariant-loop-placed : goal.invariant-loop-placed
invariant-loop-placed l = record {
  can : (goal.iterator-loop-placed).can_next l.placed-iterator;
  ends : (goal.iterator-loop-placed).is_finite l.placed-iterator;
  reached : Reached (ban_making l.counts) l.tape l.placed-iterator (bans_of l.bans);
}
