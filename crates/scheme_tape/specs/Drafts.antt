-- A scheme that is being written, and the rules that an order may break when it comes next.
use Rattle.std.specs.Prelude.{ℕ, cond, List, [], ◌∷◌, ◌++◌, length, is_some, Some, None, Option, nat_le, nat_lt}
use Rattle.model.specs.declared.counts.Counts.{Counts}
use Rattle.model.specs.Answers.{Answer, accepted, refused, lowest}
use Rattle.scheme.specs.Commands.{Command, begun, with_test, with_step, begin_rules, test_rules, step_rules}
use Rattle.tapes.specs.Grammars.{Grammar}
use Rattle.scheme_tape.specs.declared.draft.Phase.{Phase}
use Rattle.scheme_tape.specs.declared.draft.Phase.TheVariants.{Outside, Tests, Steps}
use Rattle.scheme_tape.specs.Instructions.{Instruction, begins, tests, steps, ends, code}

-- the commands that are finished, and the one that is being written, if there is one
pub record Draft : Type 0 where
  pub finished : List Command
  pub current : Option Command

abbrev pub empty_draft : Draft
empty_draft = record { finished = []; current = None }

abbrev pub phase_in : Option Command → Phase
phase_in None = Outside
phase_in (Some m) = cond (nat_lt 0 (length m.steps)) Steps Tests

abbrev pub phase_of : Draft → Phase
phase_of d = phase_in d.current

-- the lowest rule that an order breaks outside a command: only 10 may come there, and no seventeenth
abbrev pub broken_outside : (finished : List Command) → Instruction → Option ℕ
broken_outside finished (begins params cards) = lowest ((4, nat_le 16 (length finished)) ∷ begin_rules params cards)
broken_outside finished (tests t) = Some 3
broken_outside finished (steps s) = Some 3
broken_outside finished ends = Some 3

-- the lowest that it breaks inside one: 10 may not come there
abbrev pub broken_inside : Counts → Command → Instruction → Option ℕ
broken_inside c m (begins params cards) = Some 3
broken_inside c m (tests t) = lowest (test_rules c m t)
broken_inside c m (steps s) = lowest (step_rules c m s)
broken_inside c m ends = None

abbrev pub broken_at : Counts → (finished : List Command) → Option Command → Instruction → Option ℕ
broken_at c finished None i = broken_outside finished i
broken_at c finished (Some m) i = broken_inside c m i

abbrev pub broken : Counts → Draft → Instruction → Option ℕ
broken c d i = broken_at c d.finished d.current i

-- what has been written with the order too; an order out of its place adds nothing
abbrev pub extended_at : (finished : List Command) → Option Command → Instruction → Draft
extended_at finished None (begins params cards) = record { finished = finished; current = Some (begun params cards) }
extended_at finished None (tests t) = record { finished = finished; current = None }
extended_at finished None (steps s) = record { finished = finished; current = None }
extended_at finished None ends = record { finished = finished; current = None }
extended_at finished (Some m) (begins params cards) = record { finished = finished; current = Some m }
extended_at finished (Some m) (tests t) = record { finished = finished; current = Some (with_test m t) }
extended_at finished (Some m) (steps s) = record { finished = finished; current = Some (with_step m s) }
extended_at finished (Some m) ends = record { finished = finished ++ m ∷ []; current = None }

abbrev pub extended : Draft → Instruction → Draft
extended d i = extended_at d.finished d.current i

-- the language of the scheme tape; a tape may not end inside a command
abbrev pub scheme_grammar : Counts → Grammar Instruction Draft
scheme_grammar c = record { code = code; start = empty_draft; broken = broken c; extended = extended; unfinished = λ d. is_some d.current }

-- what a draft stands for where the tape ends, at this place
abbrev pub finish_at : (place : ℕ) → (finished : List Command) → Option Command → Answer (List Command)
finish_at place finished None = accepted finished
finish_at place finished (Some m) = refused 1 3 place

abbrev pub finish : (place : ℕ) → Draft → Answer (List Command)
finish place d = finish_at place d.finished d.current
