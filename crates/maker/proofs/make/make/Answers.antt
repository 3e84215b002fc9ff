use Rattle.register.specs.Views.{kept_by}
use Rattle.maker.proofs.Making.{makes_least}
use Rattle.maker.proofs.OneMaking.{one_making}
use Rattle.maker.proofs.make.make.Goals as goal

pub returns-clause-one : goal.returns-clause-one
returns-clause-one g c = one_making (kept_by c.args.register.now)

pub returns-clause-law : goal.returns-clause-law
returns-clause-law g c = makes_least (kept_by c.args.register.now)
