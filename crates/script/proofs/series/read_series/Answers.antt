use Rattle.std.proofs.Common.{is_ok, sym, ap, subst}
use Rattle.std.proofs.ResultArms.{chosen}
use Rattle.std.proofs.lemmas.Bool.Decides.{not_from_Decides}
use Rattle.script.proofs.Leading.{first_at, no_first, Taken, one_taken, all_taken, no_series}
use Rattle.script.proofs.Refusing.{unreadable}
use Rattle.script.proofs.series.read_series.Goals as goal

pub returns-in_err-number : goal.returns-in_err-number
returns-in_err-number c =
    unreadable _ _ _ c.from_residual.result _ _ c.from_residual.ensures.1 c.in_err-number.ensures.value c.in_err-number.ensures.ok_part
    (no_series c.loop-rest.invariant (not_from_Decides _ c.only_blanks.ensures c.loop-rest-test.true) (no_first c.in_err-number.ensures.ok_part c.first_number.ensures))

pub loop-rest-preserved : goal.loop-rest-preserved
loop-rest-preserved c =
    let pushed = chosen _ _ _ _ c.push.ensures.items (ap is_ok c.in_ok-push.was) in
    subst (λ numbers. Taken c.args.text.now numbers c.in_ok-number.after.now) (sym pushed)
    (one_taken c.loop-rest.invariant (first_at c.in_ok-number.ensures.ok_part c.first_number.ensures))

pub returns : goal.returns
returns c = all_taken c.loop-rest.invariant (c.only_blanks.ensures.0 c.loop-rest-test.false)
