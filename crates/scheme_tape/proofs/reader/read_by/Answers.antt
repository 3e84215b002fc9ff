use Rattle.std.proofs.Common.{◌≡◌, length, sym, ap, ◌∙◌, subst, arith}
use Rattle.std.proofs.lemmas.Result.{err_from_is_err_and}
use Rattle.tapes.proofs.Turns.{stands_first, stands_on, refused_next, refused_order}
use Rattle.scheme_tape.specs.Drafts.{finish}
use Rattle.scheme_tape.specs.Reading.{SchemeRead}
use Rattle.scheme_tape.specs.Views.{draft_of}
use Rattle.scheme_tape.proofs.Ending.{finished_as}
use Rattle.scheme_tape.proofs.reader.read_by.Goals as goal

pub loop-placed-init : goal.loop-placed-init
loop-placed-init c = record {
  can = tt;
  ends = tt;
  stands = stands_first c.in_ok-orders.ensures.start c.into_iter-placed-iterator.ensures.into_iter_gives c.empty-draft.ensures;
}

pub loop-placed-preserved : goal.loop-placed-preserved
loop-placed-preserved c = record {
  can = tt;
  ends = tt;
  stands = stands_on c.loop-placed.invariant.stands c.in-Some.ensures.steps c.in_ok-placed.was c.in_ok-take_in.ensures.answer c.take_in.ensures.after;
}

pub returns-in_err-placed : goal.returns-in_err-placed
returns-in_err-placed c =
    let p = err_from_is_err_and c.from_residual-in_err-placed.result c.from_residual-in_err-placed.ensures.1 in
    rw (p.1, p.2) (refused_next c.loop-placed.invariant.stands c.in-Some.ensures.steps c.in_err-placed.was)

pub returns-in_err-take_in : goal.returns-in_err-take_in
returns-in_err-take_in c =
    let p = err_from_is_err_and c.from_residual-in_err-take_in.result c.from_residual-in_err-take_in.ensures.1 in
    rw (p.1, p.2) (refused_order c.loop-placed.invariant.stands c.in-Some.ensures.steps c.in_ok-placed.was _ c.in_err-take_in.ensures.answer)

pub returns : goal.returns
returns c =
    let d = draft_of c.loop-placed.draft in
    let end : c.end-end.result ≡ length c.args.tape.now = omega (arith, c.end-end.ensures, ap length c.in_ok-orders.ensures.start.bytes) in
    subst (SchemeRead c.args.counts.now c.args.tape.now) (ap (λ n. finish n d) (sym end) ∙ sym c.finish.ensures)
    (finished_as c.args.counts.now d.finished d.current c.loop-placed.invariant.stands c.in-None.ensures.steps)
