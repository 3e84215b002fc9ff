use Rattle.certificates.specs.Views.{certificate_of}
use Rattle.register.specs.Views.{state_of}
use Rattle.maker.proofs.Taking.{entry_taken}
use Rattle.maker.proofs.containing.take_entry.Goals as goal

pub returns-in-Some-clause-taken : goal.returns-in-Some-clause-taken
returns-in-Some-clause-taken g c =
    entry_taken (state_of c.args.register.now).protection c.args.name c.in-Some.stamp (certificate_of c.args.table.now) (certificate_of c.meet.new.table)
    c.meet.result c.in-Some.ensures.value c.meet.ensures.grown
