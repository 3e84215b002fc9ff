use Rattle.model.specs.Answers.{answer}
use Rattle.register.specs.Views.{state_of}
use Rattle.promise.specs.Lives.{request}
use Rattle.promise.proofs.Lasting.{lives_on}
use Rattle.promise.proofs.calls.request.Goals as goal

pub returns-clause-life : goal.returns-clause-life
returns-clause-life g c =
    lives_on g.met.R.Ruling.grants c.args.register.now (state_of c.args.register.now) (state_of c.request.new.self)
    (request c.args.number c.args.names.now (answer (λ count. count) c.request.result))
    c.request.ensures.request
