use Rattle.model.specs.Bounded.{listed}
use Rattle.protection.specs.Entries.{entry_of}
use Rattle.protection.specs.Tables.{protection_of}
use Rattle.register.proofs.EntriesPut.{PutSoFar}
use Rattle.register.proofs.putting.put_entries.Given as goal

abbrev pub invariant-loop-i : goal.invariant-loop-i
invariant-loop-i l = PutSoFar (listed l.names.items) (protection_of l.back).entry (entry_of l.fn.entries) l.i (entry_of l.entries)
