use Rattle.std.proofs.Common.{refl}
use Rattle.model.specs.Answers.{answer}
use Rattle.register.specs.Views.{state_of}
use Rattle.promise.specs.Lives.{check}
use Rattle.promise.proofs.Lasting.{lives_on}
use Rattle.promise.proofs.calls.check.Goals as goal

pub returns-clause-life : goal.returns-clause-life
returns-clause-life g c =
    let s = state_of c.args.register.now in
    lives_on g.met.R.Ruling.grants c.args.register.now s s
    (check c.args.certificate.now c.args.bans.now (answer (λ done. done) c.check.result))
    (c.check.ensures.check, refl)
