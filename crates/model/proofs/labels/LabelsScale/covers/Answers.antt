use Rattle.std.proofs.Common.{◌≡◌, true, ltb, arith}
use Rattle.std.proofs.lemmas.Bool.{lt-ltb}
use Rattle.model.proofs.Labels16.{labels_by_bits}
use Rattle.model.proofs.labels.LabelsScale.covers.Goals as goal

pub returns-then-b-lt-COUNT : goal.returns-then-b-lt-COUNT
returns-then-b-lt-COUNT c =
    let a : ltb c.args.a 16 ≡ true = lt-ltb _ _ (omega arith) in
    let b : ltb c.args.b 16 ≡ true = lt-ltb _ _ (omega arith) in
    rw (a, b) (labels_by_bits c.args.a c.args.b (omega arith) (omega arith))
