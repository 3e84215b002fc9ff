use Rattle.model.specs.Answers.{answer}
use Rattle.register.specs.Views.{state_of}
use Rattle.promise.specs.Lives.{opening}
use Rattle.promise.proofs.Lasting.{lives_on}
use Rattle.promise.proofs.calls.open.Goals as goal

pub returns-clause-life : goal.returns-clause-life
returns-clause-life g c =
    lives_on g.met.R.Ruling.grants c.args.register.now (state_of c.args.register.now) (state_of c.open.new.self)
    (opening c.args.tape.now (answer (λ done. done) c.open.result))
    c.open.ensures.opens
