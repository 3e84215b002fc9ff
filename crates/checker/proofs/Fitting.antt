-- The commands of a register's scheme keep the rules on tests and steps.
use Rattle.std.proofs.Common.{◌≡◌, ℕ, true, [], Some, None, Option, slice_get, sym, subst, ◌∙◌}
use Rattle.std.specs.List.{list_all}
use Rattle.std.specs.Option.{option_map}
use Rattle.std.proofs.lemmas.Option.{none-some, same_Some, slice_get-map}
use Rattle.model.specs.Bounded.{listed}
use Rattle.model.specs.Lists.{each_after}
use Rattle.model.specs.declared.scales.Scales.{Ghosts as OfScales}
use Rattle.rulings.specs.declared.ruling.Ruling.{Ghosts as OfRuling}
use Rattle.scheme.specs.declared.command.Command.{Command as Stored}
use Rattle.scheme.specs.Commands.{Command, test_fits, step_fits}
use Rattle.scheme.specs.Views.{view}
use Rattle.stores.specs.declared.store.CellStore.{Ghosts as OfStore}
use Rattle.register.specs.declared.register.Register.{Register}
use Rattle.register.specs.States.{Kept}
use Rattle.register.specs.Views.{kept_by}

-- a command keeps the rules on its tests and its steps
pub record Fit (m : Command) : Type 0 where
  pub tested : list_all (test_fits m.params m.cards) m.tests ≡ true
  pub stepped : each_after (step_fits m.params m.cards m.tests) [] m.steps ≡ true

-- each command that is kept does
abbrev pub AllFit : Kept → Type 0
AllFit k = (number : ℕ) (m : Command) → slice_get k.commands number ≡ Some m → Fit m

-- the commands of a scheme keep the rules
stored_fit : (x : Stored) → Fit (view x)
stored_fit x = record { tested = x.tested; stepped = x.stepped }

viewed_fit : (o : Option Stored) (m : Command) → option_map view o ≡ Some m → Fit m
viewed_fit None m is = absurd (none-some m is)
viewed_fit (Some x) m is = subst Fit (same_Some (view x) m is) (stored_fit x)

module _ {S C R : Type 0} {scales : OfScales S} {stores : OfStore C} {rulings : OfRuling R} where
  pub all_fit : (r : Register S C R scales stores rulings) → AllFit (kept_by r)
  all_fit r number m is =
      let stored = listed r.scheme.scheme.commands in
      viewed_fit (slice_get stored number) m (sym (slice_get-map view stored number) ∙ is)
