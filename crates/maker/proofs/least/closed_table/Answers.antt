use Rattle.std.proofs.Common.{map}
use Rattle.std.proofs.lemmas.Result.{err_from_is_err_and}
use Rattle.scheme.specs.Views.{view}
use Rattle.certificates.specs.Views.{certificate_of}
use Rattle.register.specs.Views.{kept_by, state_of}
use Rattle.maker.proofs.Completing.{completed_least, outgrown_too_many}
use Rattle.maker.proofs.least.closed_table.Goals as goal

pub returns-in_err-close : goal.returns-in_err-close
returns-in_err-close g c =
    let k = kept_by c.args.register.now in
    let p = (state_of c.args.register.now).protection in
    let failed = err_from_is_err_and c.from_residual-in_err-close.result c.from_residual-in_err-close.ensures.1 in
    rw failed.1 (outgrown_too_many k p (certificate_of c.in_ok-table.table) c.in_ok-table.ensures (map view c.commands.result.now) c.commands.ensures c.in_err-close.ensures)

pub returns : goal.returns
returns g c =
    let k = kept_by c.args.register.now in
    let p = (state_of c.args.register.now).protection in
    completed_least k p (certificate_of c.in_ok-table.table) c.in_ok-table.ensures (map view c.commands.result.now) c.commands.ensures (certificate_of c.close.new.table) c.in_ok-close.ensures
