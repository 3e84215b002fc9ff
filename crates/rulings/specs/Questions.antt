-- What the access matrix answers to a question.
use Rattle.std.specs.Prelude.{Bool, ◌&&◌, nat_lt}
use Rattle.model.specs.Masks.{has}
use Rattle.rulings.specs.declared.question.Question.{Question}

-- the cell holds the right; there is no right over 15
abbrev pub held : Question → Bool
held q = nat_lt q.right 16 && has q.cell q.right
