use Rattle.std.proofs.Common.{sym, subst}
use Rattle.std.proofs.lemmas.Result.{err_from_is_err_and}
use Rattle.tapes.proofs.Making.{making_language, reached_first, refused_item, broken_item, reached_on, all_encoded}
use Rattle.tapes.proofs.Turns.{too_many}
use Rattle.certificates.specs.BanTapes.{EncodesBans}
use Rattle.certificates.proofs.BanLanguage.{ban_making}
use Rattle.certificates.proofs.ban_reader.read_orders.Goals as goal

pub returns-in_err-placed-items : goal.returns-in_err-placed-items
returns-in_err-placed-items c =
    let p = err_from_is_err_and c.from_residual.result c.from_residual.ensures.1 in
    rw (p.1, p.2) (too_many (making_language (ban_making c.args.counts.now)) c.args.tape.now _ c.in_err-placed-items.ensures.measured)

pub loop-placed-init : goal.loop-placed-init
loop-placed-init c = record {
  can = tt;
  ends = tt;
  reached = reached_first c.in_ok-placed-items.ensures.start c.into_iter-placed-iterator.ensures.into_iter_gives c.none-bans.ensures;
}

pub returns-in_err-placed : goal.returns-in_err-placed
returns-in_err-placed c =
    let p = err_from_is_err_and c.from_residual-in_err-placed.result c.from_residual-in_err-placed.ensures.1 in
    rw (p.1, p.2) (refused_item c.loop-placed.invariant.reached c.in-Some.ensures.steps c.in_err-placed.was)

pub loop-placed-preserved : goal.loop-placed-preserved
loop-placed-preserved c = record {
  can = tt;
  ends = tt;
  reached = reached_on c.loop-placed.invariant.reached c.in-Some.ensures.steps c.in_ok-placed.was c.in_ok-take_in.ensures.answer c.take_in.ensures.after;
}

pub returns-in_err-take_in : goal.returns-in_err-take_in
returns-in_err-take_in c =
    let p = err_from_is_err_and c.from_residual-in_err-take_in.result c.from_residual-in_err-take_in.ensures.1 in
    rw (p.1, p.2) (broken_item c.loop-placed.invariant.reached c.in-Some.ensures.steps c.in_ok-placed.was _ c.in_err-take_in.ensures.answer)

pub returns : goal.returns
returns c =
    let at = c.loop-placed.invariant.reached in
    subst (EncodesBans c.args.counts.now c.args.tape.now) (sym at.holds) (all_encoded at c.in-None.ensures.steps)
