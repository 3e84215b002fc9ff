-- That the lowest rule that is broken is none says of each rule that it is not.
use Rattle.std.proofs.Common.{◌≡◌, ℕ, Bool, true, false, cond, List, [], ◌∷◌, Some, None, refl, ap, ◌∙◌}
use Rattle.model.specs.Answers.{lowest}

-- none of these rules is broken
abbrev pub Unbroken : List (ℕ × Bool) → Type 0
Unbroken [] = Unit {0}
Unbroken (rule ∷ rules) = (rule.1 ≡ false) × Unbroken rules

pub to_unbroken : (rules : List (ℕ × Bool)) → lowest rules ≡ None → Unbroken rules
to_unbroken [] h = tt
to_unbroken (rule ∷ rules) h = by rule.1 refl h (to_unbroken rules)
  where
    by : (b : Bool) → rule.1 ≡ b → cond b (Some rule.0) (lowest rules) ≡ None → (lowest rules ≡ None → Unbroken rules) → Unbroken (rule ∷ rules)
    by true is bad on = cc
    by false is rest on = (is, on rest)

pub from_unbroken : (rules : List (ℕ × Bool)) → Unbroken rules → lowest rules ≡ None
from_unbroken [] u = refl
from_unbroken (rule ∷ rules) u = ap (λ b. cond b (Some rule.0) (lowest rules)) u.0 ∙ from_unbroken rules u.1
