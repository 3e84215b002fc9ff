use Rattle.register.specs.Views.{kept_by, state_of}
use Rattle.checker.proofs.Answering.{one_check, accepted_exactly}
use Rattle.checker.proofs.Safety.{keeps_inside}
use Rattle.checker.proofs.Worked.{worked_checks}
use Rattle.checker.proofs.check.check.Goals as goal

pub returns-clause-exact : goal.returns-clause-exact
returns-clause-exact g c = accepted_exactly (kept_by c.args.register.now) (state_of c.args.register.now) c.args.certificate.now c.args.bans.now _ c.answer_by.ensures

pub returns-clause-one : goal.returns-clause-one
returns-clause-one g c = one_check (kept_by c.args.register.now)

pub returns-clause-law : goal.returns-clause-law
returns-clause-law g c = keeps_inside c.args.register.now

pub returns-clause-worked : goal.returns-clause-worked
returns-clause-worked g c = worked_checks
