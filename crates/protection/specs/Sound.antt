-- What each state of a register keeps: rights lie only between entries that stand, and only a subject has them.
use Rattle.std.specs.Prelude.{◌≡◌, ℕ, ◌<◌, true, List, [], length, None}
use Rattle.scheme.specs.Commands.{Command, step_fits}
use Rattle.model.specs.Lists.{each_after}
use Rattle.protection.specs.Commands.{name_at, seen, run}
use Rattle.protection.specs.Excerpts.{Distinct}
use Rattle.protection.specs.Requests.{first_parameter, standing_wrong, card_wrong}
use Rattle.protection.specs.States.{Protection, stands, is_subject}

-- A cell is empty unless its row is a standing subject and its column stands.
abbrev pub Sound : Protection → Type 0
Sound p = (s o : ℕ) → 0 < p.cells s o → (is_subject (p.entry s) ≡ true) × (stands p o ≡ true)

-- The steps of a command that keep the rules leave a sound state sound, for distinct names of which each stands, and is a
-- subject's, as the command wants it.
abbrev pub KeepsSound : Command → Type 0
KeepsSound m =
    (names : List ℕ) (p : Protection)
    → each_after (step_fits m.params m.cards m.tests) [] m.steps ≡ true
    → length names ≡ m.params
    → Distinct names
    → first_parameter m.params (standing_wrong m (seen (name_at names) p)) ≡ None
    → first_parameter m.params (card_wrong m (seen (name_at names) p)) ≡ None
    → Sound p
    → Sound (run m.cards (name_at names) m.steps p)
