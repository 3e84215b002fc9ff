-- What the making of a store answers, and what a refusal hands back.
use Rattle.std.specs.Prelude.{Some, None, Ok, Err, Option, Result}
use Rattle.model.specs.Answers.{Answer, accepted, refusal}
use Rattle.stores.specs.declared.unfit.Unfit.{Unfit}

-- the store that was made, as `plain` views it, or the refusal
abbrev pub made_answer : {S M X : Type 0} → (S → X) → Result S (Unfit M) → Answer X
made_answer plain (Ok store) = accepted (plain store)
made_answer plain (Err unfit) = refusal unfit.fault

-- the memory that a refusal hands back, as `plain` views it
abbrev pub handed_back : {S M X : Type 0} → (M → X) → Result S (Unfit M) → Option X
handed_back plain (Ok store) = None
handed_back plain (Err unfit) = Some (plain unfit.memory)
