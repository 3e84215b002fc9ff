-- The rule on the limit, as a change of a store tells of it.
use Rattle.std.proofs.Common.{◌≡◌, ℕ, Bool, true, false, cond, Some, None, Option, refl, ap, ◌∙◌}
use Rattle.model.specs.Answers.{Answer, accepted, refused, unless}
use Rattle.stores.specs.Matrices.{Matrix}
use Rattle.protection.specs.Requests.{or_else, whole_if, unless_broken, unless_refused}

-- 16, where it is broken; and the same at the place 0
abbrev number_if : Bool → Option ℕ
number_if b = cond b (Some 16) None

abbrev rule_if : Bool → Option (ℕ × ℕ)
rule_if b = or_else 16 (whole_if b) None

-- all is done
abbrev pub fine : Answer (Unit {0})
fine = accepted tt

pub put_fits : (b : Bool) → None ≡ number_if b → fine ≡ unless_broken (rule_if b) tt
put_fits true is = cc
put_fits false is = refl

pub put_refused : (b : Bool) (n : ℕ) → Some n ≡ number_if b → refused 5 n 0 ≡ unless_broken {X = Unit {0}} (rule_if b) tt
put_refused true n is = let same : n ≡ 16 = cc in ap (λ m. refused 5 m 0) same
put_refused false n is = cc

pub put_leaves : (b : Bool) (o : Option ℕ) (now old target : Matrix) → o ≡ number_if b → now ≡ unless o old target → now ≡ unless_refused (rule_if b) old target
put_leaves true o now old target is left = left ∙ ap (λ p. unless p old target) is
put_leaves false o now old target is left = left ∙ ap (λ p. unless p old target) is
