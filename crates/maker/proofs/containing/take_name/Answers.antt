use Rattle.certificates.specs.Views.{certificate_of}
use Rattle.register.specs.Views.{state_of}
use Rattle.maker.proofs.Taking.{name_taken}
use Rattle.maker.proofs.containing.take_name.Goals as goal

pub returns-clause-taken : goal.returns-clause-taken
returns-clause-taken g c =
    name_taken (state_of c.args.register.now).protection c.args.name (certificate_of c.args.table.now) (certificate_of c.take_entry.new.table) (certificate_of c.take_row.new.table)
    c.take_row.result c.in_ok-take_entry.ensures.taken c.take_row.ensures
