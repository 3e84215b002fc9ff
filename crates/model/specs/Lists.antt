-- Rules over whole lists.
use Rattle.std.specs.Prelude.{Bool, true, ◌&&◌, List, [], ◌∷◌, ◌++◌}

-- each element passes, given those that come before it
abbrev pub each_after : {X : Type 0} → (List X → X → Bool) → List X → List X → Bool
each_after f before [] = true
each_after f before (x ∷ xs) = f before x && each_after f (before ++ x ∷ []) xs
