use Rattle.std.proofs.Common.{refl, ◌∙◌}
use Rattle.std.proofs.lemmas.Result.{err_from_is_err_and}
use Rattle.protection.specs.Standing.{standing}
use Rattle.tapes.proofs.Making.{reached_first}
use Rattle.opening.proofs.Taking.{too_long, no_order, broken, taken_on, all_taken}
use Rattle.opening.proofs.reader.read_orders.Goals as goal

pub returns-in_err-placed-items-clause-taken : goal.returns-in_err-placed-items-clause-taken
returns-in_err-placed-items-clause-taken g c =
    let p = err_from_is_err_and c.from_residual.result c.from_residual.ensures.1 in
    rw (p.1, p.2)
    (too_long c.args.counts.now (g.C.CellStore.most c.args.store.now) c.args.tape.now _ c.in_err-placed-items.ensures.measured
    (standing c.args.entries.now (g.C.CellStore.cells c.args.store.now)))

pub loop-placed-init : goal.loop-placed-init
loop-placed-init g c = record {
  can = tt;
  ends = tt;
  reached = reached_first c.in_ok-placed-items.ensures.start c.into_iter-placed-iterator.ensures.into_iter_gives c.requires;
  limit = refl;
}

pub returns-in_err-placed-clause-taken : goal.returns-in_err-placed-clause-taken
returns-in_err-placed-clause-taken g c =
    let p = err_from_is_err_and c.from_residual-in_err-placed.result c.from_residual-in_err-placed.ensures.1 in
    rw (p.1, p.2)
    (no_order c.args.counts.now (g.C.CellStore.most c.args.store.now) c.args.tape.now _ _ _ c.loop-placed.invariant.reached _ _ c.in-Some.ensures.steps c.in_err-placed.was)

pub loop-placed-preserved : goal.loop-placed-preserved
loop-placed-preserved g c =
    let stands = c.loop-placed.invariant in
    record {
      can = tt;
      ends = tt;
      reached = taken_on c.args.counts.now (g.C.CellStore.most c.args.store.now) c.args.tape.now _ _ _ stands.reached _ stands.limit _ _ c.in-Some.ensures.steps c.in_ok-placed.was _ c.in_ok-take_in.ensures.answer c.take_in.ensures.after;
      limit = c.take_in.ensures.limit ∙ stands.limit;
    }

pub returns-in_err-take_in-clause-taken : goal.returns-in_err-take_in-clause-taken
returns-in_err-take_in-clause-taken g c =
    let p = err_from_is_err_and c.from_residual-in_err-take_in.result c.from_residual-in_err-take_in.ensures.1 in
    let stands = c.loop-placed.invariant in
    rw (p.1, p.2)
    (broken c.args.counts.now (g.C.CellStore.most c.args.store.now) c.args.tape.now _ _ _ stands.reached _ stands.limit _ _ c.in-Some.ensures.steps c.in_ok-placed.was _ c.in_err-take_in.ensures.answer (standing c.take_in.new.entries (g.C.CellStore.cells c.take_in.new.store)))

pub returns-clause-taken : goal.returns-clause-taken
returns-clause-taken g c =
    all_taken c.args.counts.now (g.C.CellStore.most c.args.store.now) c.args.tape.now _ _ _ c.loop-placed.invariant.reached c.in-None.ensures.steps
