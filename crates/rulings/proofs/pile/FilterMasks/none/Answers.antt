use Rattle.std.proofs.Common.{refl}
use Rattle.rulings.proofs.Stacks.{nothing_asked}
use Rattle.rulings.proofs.pile.FilterMasks.none.Goals as goal

pub returns : goal.returns
returns c = record { masks = refl; unfiltered = nothing_asked }
