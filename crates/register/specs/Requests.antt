-- What a request answers, and what it leaves.
use Rattle.std.specs.Prelude.{◌≡◌, ℕ, ◌+◌, min, List, [], ◌∷◌, ◌++◌, Some, None, Option, nat_lt, slice_get}
use Rattle.model.specs.Answers.{Answer, accepted, refused}
use Rattle.scheme.specs.Commands.{Command}
use Rattle.stores.specs.Matrices.{Matrix, count}
use Rattle.changes.specs.Names.{names_rules}
use Rattle.protection.specs.Commands.{name_at, seen, run}
use Rattle.protection.specs.Excerpts.{renewed, cells_back}
use Rattle.protection.specs.Frames.{Untouched}
use Rattle.protection.specs.Requests.{whole_if, lowest_placed, unless_broken, unless_refused, seen_rules}
use Rattle.protection.specs.States.{Protection}
use Rattle.register.specs.States.{State, Kept}

-- The steps of the command in order, on these names. A command that does not exist does nothing.
abbrev pub done : Option Command → (names : List ℕ) → Protection → Protection
done None names p = p
done (Some m) names p = run m.cards (name_at names) m.steps p

-- The rule on the cells after all steps.
abbrev pub limit_rules : (limit : ℕ) → (after : Matrix) → List (ℕ × Option ℕ)
limit_rules limit after = (16, whole_if (nat_lt limit (count after))) ∷ []

-- The rules of a request for this command by rising number, each with the place where it is broken, if it is. Tests are read in
-- the state before; the limit is looked at in the state after all steps.
abbrev pub request_rules : Kept → Protection → Command → (names : List ℕ) → List (ℕ × Option ℕ)
request_rules k p m names =
    names_rules m.params names
    ++ (seen_rules k.covers m (seen (name_at names) p)
    ++ limit_rules k.limit (done (Some m) names p).cells)

-- the lowest rule that is broken, and where; 9 for a command that does not exist
abbrev pub broken_rule : Kept → Protection → Option Command → (names : List ℕ) → Option (ℕ × ℕ)
broken_rule k p None names = Some (9, 0)
broken_rule k p (Some m) names = lowest_placed (request_rules k p m names)

-- one request more, but never more than 4,294,967,295
abbrev pub one_more : (count : ℕ) → ℕ
one_more n = min (n + 1) 4294967295

-- a state after one request more than this count
abbrev pub counted : Protection → (count : ℕ) → State
counted p n = record { protection = p; count = one_more n }

-- A request is refused by the lowest rule that is broken, and nothing changes; or it is done whole, and answered by the count.
pub record Asked (k : Kept) (before : State) (m : Option Command) (names : List ℕ) (answer : Answer ℕ) (after : State) : Type 0 where
  pub answers : answer ≡ unless_broken (broken_rule k before.protection m names) (one_more before.count)
  pub leaves : after ≡ unless_refused (broken_rule k before.protection m names) before (counted (done m names before.protection) before.count)

-- the same of the command with this number
abbrev pub Requested : Kept → State → (number : ℕ) → (names : List ℕ) → Answer ℕ → State → Type 0
Requested k before number names answer after = Asked k before (slice_get k.commands number) names answer after

-- Entries and cells that no step of the command names are as they were. A command that does not exist changes nothing.
abbrev pub UntouchedBy : Option Command → (names : List ℕ) → (before after : Protection) → Type 0
UntouchedBy None names before after = after ≡ before
UntouchedBy (Some m) names before after = Untouched (name_at names) m.steps before after

-- What follows is what the parts of a request do.

-- the command of a number, or 9
abbrev pub found : Option Command → Answer Command
found None = refused 5 9 0
found (Some m) = accepted m

-- the cells with what the command made of those between its names put back
abbrev pub cells_after : Command → (names : List ℕ) → (back : Protection) → Matrix → Matrix
cells_after m names back = cells_back names (renewed m.steps) back.cells
