-- What an opening answers, and what it leaves.
use Rattle.std.specs.Prelude.{◌≡◌, ℕ, List}
use Rattle.model.specs.Answers.{Answer}
use Rattle.opening.specs.Opened.{Opened}
use Rattle.register.specs.States.{State, Kept}

-- The tape is answered by its reading, under the scales and the limit of the register, and what it lists is all that stands then,
-- or nothing after a refusal. Whatever stood before, no request has been accepted since.
pub record Opens (k : Kept) (tape : List ℕ) (answer : Answer (Unit {0})) (after : State) : Type 0 where
  pub opened : Opened k.counts k.limit tape answer after.protection
  pub begun : after.count ≡ 0
