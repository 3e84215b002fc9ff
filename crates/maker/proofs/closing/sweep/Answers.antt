use Rattle.std.proofs.Common.{map, refl}
use Rattle.std.proofs.lemmas.List.{length-map}
use Rattle.std.proofs.lemmas.Result.{err_from_is_err_and}
use Rattle.scheme.specs.Views.{view}
use Rattle.certificates.specs.Views.{certificate_of}
use Rattle.certificates.proofs.Each.{each_there}
use Rattle.castings.specs.Closure.{Closed}
use Rattle.checker.specs.Judgements.{ClosedUnderEach}
use Rattle.checker.proofs.Firsts.{command_at}
use Rattle.maker.proofs.Growths.{grown_so, outgrown_before, changed_more, closed_more, outgrown_more}
use Rattle.maker.proofs.closing.sweep.Goals as goal

pub returns-in_err-grown : goal.returns-in_err-grown
returns-in_err-grown g c =
    let commands = map view c.args.commands.now in
    let asked = ClosedUnderEach g.S.Scales.covering commands in
    let first = certificate_of c.args.table.now in
    let t = certificate_of c.loop-command.table in
    let m = c.command-item.result in
    let there = command_at commands c.args.commands.now c.loop-command.command-index m refl c.loop-command-test.true c.command-item.is in
    let p = err_from_is_err_and c.from_residual.result c.from_residual.ensures.1 in
    rw p.1
    (outgrown_before asked first t (grown_so asked first t c.loop-command.grown c.loop-command.invariant.change)
    (outgrown_more g.S.Scales.covering commands c.loop-command.command-index (view m) there t c.in_err-grown.ensures))

pub loop-command-preserved : goal.loop-command-preserved
loop-command-preserved g c =
    let covers = g.S.Scales.covering in
    let commands = map view c.args.commands.now in
    let number = c.loop-command.command-index in
    let m = c.command-item.result in
    let there = command_at commands c.args.commands.now number m refl c.loop-command-test.true c.command-item.is in
    let t = certificate_of c.loop-command.table in
    let u = certificate_of c.grow_under.new.table in
    record {
      change = changed_more covers commands number (view m) there (certificate_of c.args.table.now) t u c.loop-command.grown c.in_ok-grown.field-0 c.loop-command.invariant.change c.in_ok-grown.ensures;
      unchanged = closed_more covers commands number (view m) there t u c.loop-command.grown c.in_ok-grown.field-0 c.loop-command.invariant.unchanged c.in_ok-grown.ensures;
    }

pub returns : goal.returns
returns g c =
    let commands = map view c.args.commands.now in
    record {
      change = c.loop-command.invariant.change;
      unchanged = λ h.
          each_there (Closed g.S.Scales.covering (certificate_of c.loop-command.table)) commands c.loop-command.command-index
          (rw (length-map c.args.commands.now view) c.loop-command-test.false)
          (c.loop-command.invariant.unchanged h);
    }
