-- What a reader answers.
use Rattle.std.specs.Prelude.{Option, MatchOption}

-- `Some` thing that has the property, or `None` where no thing has it. The library's `SomeIff` would have to name that
-- thing, which here the reader finds.
abbrev pub Finds : {X : Type 0} → (X → Type 0) → Option X → Type 0
Finds {X} P o = MatchOption o ((x : X) → ¬ P x) P
