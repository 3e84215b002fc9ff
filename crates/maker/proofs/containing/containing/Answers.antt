use Rattle.std.proofs.Common.{sym, subst, arith}
use Rattle.certificates.specs.Views.{certificate_of}
use Rattle.register.specs.Views.{state_of}
use Rattle.checker.proofs.Strays.{no_names}
use Rattle.maker.specs.Taking.{Under}
use Rattle.maker.proofs.Taking.{none_under, one_more_name}
use Rattle.maker.proofs.containing.containing.Goals as goal

pub loop-name-init : goal.loop-name-init
loop-name-init g c =
    let p = (state_of c.args.register.now).protection in
    record {
      under = subst (Under p) (sym c.empty-table.ensures) (none_under p);
      below = no_names (certificate_of c.empty-table.result) p;
      entries = λ low. absurd (omega arith);
    }

pub loop-name-preserved : goal.loop-name-preserved
loop-name-preserved g c =
    let p = (state_of c.args.register.now).protection in
    let taken = c.in_ok-take_name.ensures.taken in
    record {
      under = taken.under c.loop-name.invariant.under;
      below = one_more_name p c.loop-name.name (certificate_of c.loop-name.table) (certificate_of c.take_name.new.table) c.loop-name.invariant.below taken;
      entries = λ _. c.in_ok-take_name.ensures.names;
    }
