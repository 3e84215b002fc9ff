-- What a command takes as a parameter, or makes of it.
use Rattle.std.specs.Prelude.{ℕ, cond, List, codes}
use Rattle.std.specs.List.{list_any}
use Rattle.model.specs.Masks.{has}
use Rattle.scheme.specs.Commands.{Command}
use Rattle.scheme.specs.Steps.{creates_in_step}
use Rattle.words.specs.declared.role.Role.{Role}
use Rattle.words.specs.declared.role.Role.TheVariants.{Card, AnyEntry, NewCard, NewThing}

-- A parameter that some step creates is new; one whose bit is set is a card.
abbrev pub role : Command → (i : ℕ) → Role
role m i = cond (list_any (creates_in_step i) m.steps) (cond (has m.cards i) NewCard NewThing) (cond (has m.cards i) Card AnyEntry)

abbrev pub role_words : Role → List ℕ
role_words Card = codes "card"
role_words AnyEntry = codes "any entry"
role_words NewCard = codes "new card"
role_words NewThing = codes "new thing"
