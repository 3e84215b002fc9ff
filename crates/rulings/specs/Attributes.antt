-- Calls that name an attribute by its number.
use Rattle.std.specs.Prelude.{ℕ, cond, nat_lt}
use Rattle.model.specs.Answers.{Answer, accepted, refused}

-- If there is an attribute k, the call is done; else it is refused in layer 7, the parts, by number 24, with place k.
abbrev pub if_attribute : {X : Type 0} → (k : ℕ) → (done : X) → Answer X
if_attribute k done = cond (nat_lt k 4) (accepted done) (refused 7 24 k)
