use Rattle.register.proofs.Leaving.{untouched_by}
use Rattle.register.proofs.Worked.{worked_kiosk}
use Rattle.register.proofs.register.Register.request.Goals as goal

pub returns-clause-untouched : goal.returns-clause-untouched
returns-clause-untouched g c = untouched_by _ _ _ _ _ _ c.carry_out.ensures.request

pub returns-clause-worked : goal.returns-clause-worked
returns-clause-worked g c = worked_kiosk
