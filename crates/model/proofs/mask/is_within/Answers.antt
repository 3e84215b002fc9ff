use Rattle.std.proofs.lemmas.Bool.{eqb-true, eq-eqb}
use Rattle.model.proofs.Containing.{within_from_and, and_from_within}
use Rattle.model.proofs.mask.is_within.Goals as goal

pub returns : goal.returns
returns c = (λ h. within_from_and c.args.m c.args.n (eqb-true _ _ h), λ within. eq-eqb _ _ (and_from_within c.args.m c.args.n within))
