-- What taking in an order of any tape does, by the grammar of one: which rule it breaks, or what has been read with it too.
-- An order that says nothing on that tape is out of place there.
use Rattle.std.specs.Prelude.{ℕ, Some, None, Option}
use Rattle.model.specs.Answers.{Answer, accepted}
use Rattle.tapes.specs.declared.tape.Tape.{Tape}
use Rattle.tapes.specs.Grammars.{Grammar}
use Rattle.tapes.specs.Readers.{fault_of}

-- the lowest rule that it breaks, where the rule of what it says is this
abbrev pub rule_of : {I D : Type 0} → (D → I → Option ℕ) → D → Option I → Option ℕ
rule_of rule d None = Some 3
rule_of rule d (Some i) = rule d i

-- what there is with it too, where what it says adds this; one that says nothing adds nothing
abbrev pub with_order : {I D : Type 0} → (D → I → D) → D → Option I → D
with_order more d None = d
with_order more d (Some i) = more d i

-- the same by the grammar, which has the rule and what is added
abbrev pub broken_order : {I D : Type 0} → Grammar I D → D → Option I → Option ℕ
broken_order g = rule_of g.broken

abbrev pub extended_order : {I D : Type 0} → Grammar I D → D → Option I → D
extended_order g = with_order g.extended

-- the answer at a place, by the rule that is broken there, if one is
abbrev pub taken : Tape → (place : ℕ) → Option ℕ → Answer (Unit {0})
taken tape place None = accepted tt
taken tape place (Some number) = fault_of tape number place
