-- What a stored register stands for.
use Rattle.model.specs.declared.scales.Scales.{Ghosts as OfScales}
use Rattle.rulings.specs.declared.ruling.Ruling.{Ghosts as OfRuling}
use Rattle.scheme.specs.Views.{commands_of}
use Rattle.stores.specs.declared.store.CellStore.{Ghosts as OfStore}
use Rattle.register.specs.declared.register.Register.{Register}
use Rattle.register.specs.States.{State, Kept}
use Rattle.protection.specs.Standing.{standing}

module _ {S C R : Type 0} {scales : OfScales S} {stores : OfStore C} {rulings : OfRuling R} where
  -- its state
  abbrev pub state_of : Register S C R scales stores rulings → State
  state_of r = record { protection = standing r.entries (stores.cells r.store); count = r.accepted }

  -- what it keeps for good
  abbrev pub kept_by : Register S C R scales stores rulings → Kept
  kept_by r = record {
    counts = scales.counts;
    covers = scales.covering;
    commands = commands_of r.scheme.scheme;
    limit = stores.most r.store;
    says = rulings.says r.ruling;
  }
