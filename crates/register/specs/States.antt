-- The state of a register, and what it keeps for good.
use Rattle.std.specs.Prelude.{ℕ, Bool, List}
use Rattle.model.specs.declared.counts.Counts.{Counts}
use Rattle.protection.specs.States.{Protection, nothing}
use Rattle.rulings.specs.declared.question.Question.{Question}
use Rattle.scheme.specs.Commands.{Command}

-- the protection state, and how many requests have been accepted since the opening
pub record State : Type 0 where
  pub protection : Protection
  pub count : ℕ

-- no entries, empty cells, and count 0
abbrev pub empty_state : State
empty_state = record { protection = nothing; count = 0 }

-- What a register is made with, and keeps: how many values each attribute has, and which cover which; its commands; how many cells
-- may be non-empty; and what its ruling says.
pub record Kept : Type 0 where
  pub counts : Counts
  pub covers : (k a b : ℕ) → Bool
  pub commands : List Command
  pub limit : ℕ
  pub says : Question → Bool
