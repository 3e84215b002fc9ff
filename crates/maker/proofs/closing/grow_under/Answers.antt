use Rattle.std.proofs.Common.{subst}
use Rattle.std.proofs.lemmas.Bool.{true≢false}
use Rattle.std.proofs.lemmas.Result.{err_from_is_err_and}
use Rattle.scheme.specs.Views.{view}
use Rattle.certificates.specs.Certificates.{Certificate}
use Rattle.certificates.specs.Views.{certificate_of}
use Rattle.castings.specs.Closure.{Closed}
use Rattle.castings.specs.Places.{ClosedAt}
use Rattle.castings.proofs.Coming.{closed_at_all}
use Rattle.maker.proofs.Growths.{grown_so, changed_then, outgrown_before, grown_by_need, outgrown_by_need}
use Rattle.maker.proofs.closing.grow_under.Goals as goal

pub returns-in_err-meet : goal.returns-in_err-meet
returns-in_err-meet g c =
    let covers = g.S.Scales.covering in
    let m = view c.args.command.now in
    let asked = λ (d : Certificate). Closed covers d m in
    let first = certificate_of c.args.table.now in
    let t = certificate_of c.loop-escape.table in
    let p = err_from_is_err_and c.from_residual.result c.from_residual.ensures.1 in
    rw p.1
    (outgrown_before asked first t (grown_so asked first t c.loop-escape.grown c.loop-escape.invariant.change)
    (outgrown_by_need covers m t c.need_of-need.result c.need_of-need.ensures c.in_err-meet.ensures.grown))

pub loop-escape-preserved : goal.loop-escape-preserved
loop-escape-preserved g c =
    let covers = g.S.Scales.covering in
    let m = view c.args.command.now in
    let t = certificate_of c.loop-escape.table in
    let u = certificate_of c.meet.new.table in
    record {
      change =
          changed_then (λ d. Closed covers d m) (certificate_of c.args.table.now) t u c.loop-escape.grown c.loop-escape.invariant.change
          (c.in_ok-meet.ensures.room c.need_of-need.ensures.lacks, grown_by_need covers m t c.need_of-need.result c.need_of-need.ensures u c.in_ok-meet.ensures.grown);
      first = λ h. absurd (true≢false h);
    }

pub returns : goal.returns
returns g c =
    let covers = g.S.Scales.covering in
    let m = view c.args.command.now in
    let t = certificate_of c.loop-escape.table in
    record {
      change = c.loop-escape.invariant.change;
      unchanged = λ h. closed_at_all covers t m (subst (ClosedAt covers t m) (c.loop-escape.invariant.first h) c.in_default.ensures);
    }
