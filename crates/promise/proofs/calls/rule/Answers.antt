use Rattle.std.proofs.Common.{refl}
use Rattle.register.specs.Views.{state_of}
use Rattle.promise.specs.Lives.{ruling}
use Rattle.promise.proofs.Lasting.{lives_on}
use Rattle.promise.proofs.calls.rule.Goals as goal

pub returns-clause-life : goal.returns-clause-life
returns-clause-life g c =
    let s = state_of c.args.register.now in
    lives_on g.met.R.Ruling.grants c.args.register.now s s (ruling c.args.row c.args.column c.args.right c.allows.result) (c.allows.ensures, refl)
