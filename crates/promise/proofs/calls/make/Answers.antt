use Rattle.std.proofs.Common.{refl}
use Rattle.model.specs.Answers.{answer}
use Rattle.register.specs.Views.{state_of}
use Rattle.promise.specs.Lives.{making}
use Rattle.promise.proofs.Lasting.{lasting_promise, lives_on}
use Rattle.promise.proofs.Worked.{worked_rows}
use Rattle.promise.proofs.calls.make.Goals as goal

pub returns-clause-life : goal.returns-clause-life
returns-clause-life g c =
    let s = state_of c.args.register.now in
    lives_on g.met.R.Ruling.grants c.args.register.now s s
    (making c.args.bans.now c.args.buffer.now (answer (λ n. n) c.make.result) c.make.new.buffer)
    (c.make.ensures.make, refl)

pub returns-clause-lasting : goal.returns-clause-lasting
returns-clause-lasting g c = lasting_promise g.met.R.Ruling.grants c.args.register.now

pub returns-clause-worked : goal.returns-clause-worked
returns-clause-worked g c = worked_rows
