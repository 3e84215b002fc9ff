use Rattle.std.proofs.Common.{map}
use Rattle.scheme.specs.Views.{view}
use Rattle.certificates.specs.Views.{certificate_of}
use Rattle.checker.specs.Judgements.{ClosedUnderEach}
use Rattle.maker.proofs.Growths.{grown_so, grown_both}
use Rattle.maker.proofs.closing.close.Goals as goal

pub loop-preserved : goal.loop-preserved
loop-preserved g c =
    let asked = ClosedUnderEach g.S.Scales.covering (map view c.args.commands.now) in
    let t = certificate_of c.loop.table in
    let u = certificate_of c.sweep.new.table in
    grown_both asked (certificate_of c.args.table.now) t u c.loop.invariant (grown_so asked t u c.in_ok-sweep.field-0 c.in_ok-sweep.ensures.change)

pub returns : goal.returns
returns g c =
    let asked = ClosedUnderEach g.S.Scales.covering (map view c.args.commands.now) in
    let t = certificate_of c.loop.table in
    let u = certificate_of c.sweep.new.table in
    record {
      grown = grown_both asked (certificate_of c.args.table.now) t u c.loop.invariant (grown_so asked t u c.in_ok-sweep.field-0 c.in_ok-sweep.ensures.change);
      complete = c.in_ok-sweep.ensures.unchanged c.if-branch.false;
    }
