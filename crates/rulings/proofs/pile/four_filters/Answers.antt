use Rattle.model.specs.Scales.{covers_in}
use Rattle.rulings.proofs.Stacks.{each_asked}
use Rattle.rulings.proofs.pile.four_filters.Goals as goal

pub returns : goal.returns
returns g c =
    each_asked
    (covers_in g.S0.Scale.COUNT g.S0.Scale.covering)
    (covers_in g.S1.Scale.COUNT g.S1.Scale.covering)
    (covers_in g.S2.Scale.COUNT g.S2.Scale.covering)
    (covers_in g.S3.Scale.COUNT g.S3.Scale.covering)
    c.args.masks
    record {}
    c.over.result
    (cc)
