-- When two stamps are the same.
use Rattle.std.proofs.Common.{◌≡◌, ℕ, true, ◌&&◌, eqb, List, [], ◌∷◌, Some, None, Option, refl, ap}
use Rattle.std.proofs.lemmas.Bool.{and_parts, and_from, eqb-true, eq-eqb}
use Rattle.std.specs.Cmp.Lexicographic.{pointwise}
use Rattle.std.specs.Option.{option_eq}
use Rattle.model.specs.declared.kind.Kind.{Kind}
use Rattle.model.specs.declared.kind.Kind.TheVariants.{Subject, Object}
use Rattle.model.specs.declared.stamp.Stamp.{Stamp}
use Rattle.model.specs.Kinds.{kind_number}
use Rattle.model.specs.Stamps.{same_value, same_values, same_stamp}

one_value : (a b : Option ℕ) → option_eq eqb a b ≡ same_value a b
one_value None None = refl
one_value None (Some b) = refl
one_value (Some a) None = refl
one_value (Some a) (Some b) = refl

-- what `==` says of attributes
pub values_one_by_one : (xs ys : List (Option ℕ)) → pointwise (option_eq eqb) xs ys ≡ same_values xs ys
values_one_by_one [] [] = refl
values_one_by_one [] (y ∷ ys) = refl
values_one_by_one (x ∷ xs) [] = refl
values_one_by_one (x ∷ xs) (y ∷ ys) = λ i. one_value x y i && values_one_by_one xs ys i

value_so : (a b : Option ℕ) → same_value a b ≡ true → a ≡ b
value_so None None h = refl
value_so None (Some b) h = cc
value_so (Some a) None h = cc
value_so (Some a) (Some b) h = ap (λ v. Some v) (eqb-true a b h)

values_so : (xs ys : List (Option ℕ)) → same_values xs ys ≡ true → xs ≡ ys
values_so [] [] h = refl
values_so [] (y ∷ ys) h = cc
values_so (x ∷ xs) [] h = cc
values_so (x ∷ xs) (y ∷ ys) h =
    let parts = and_parts (same_value x y) (same_values xs ys) h in
    λ i. value_so x y parts.0 i ∷ values_so xs ys parts.1 i

kind_so : (a b : Kind) → eqb (kind_number a) (kind_number b) ≡ true → a ≡ b
kind_so Subject Subject h = refl
kind_so Subject Object h = cc
kind_so Object Subject h = cc
kind_so Object Object h = refl

pub stamp_so : (s t : Stamp) → same_stamp s t ≡ true → s ≡ t
stamp_so s t h =
    let parts = and_parts (eqb (kind_number s.kind) (kind_number t.kind)) (same_values s.attributes t.attributes) h in
    λ i. record { kind = kind_so s.kind t.kind parts.0 i; attributes = values_so s.attributes t.attributes parts.1 i }

value_self : (a : Option ℕ) → same_value a a ≡ true
value_self None = refl
value_self (Some a) = eq-eqb a a refl

values_self : (xs : List (Option ℕ)) → same_values xs xs ≡ true
values_self [] = refl
values_self (x ∷ xs) = and_from (same_value x x) (same_values xs xs) (value_self x) (values_self xs)

pub stamp_self : (s : Stamp) → same_stamp s s ≡ true
stamp_self s = and_from (eqb (kind_number s.kind) (kind_number s.kind)) (same_values s.attributes s.attributes) (eq-eqb _ _ refl) (values_self s.attributes)
