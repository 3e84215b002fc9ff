-- How a text comes apart at its first stroke, and that it does so in one way.
use Rattle.std.proofs.Common.{◌≡◌, ℕ, ◌-◌, ◌≤◌, Bor, true, ◌⊎◌, List, [], ◌∷◌, ◌++◌, length, take, drop, Some, None, Option, codes, sym, refl, ap, ◌∙◌, subst, arith}
use Rattle.std.specs.Option.{option_map}
use Rattle.std.specs.List.{position_or_len}
use Rattle.std.proofs.lemmas.Bool.{eqb-true}
use Rattle.std.proofs.lemmas.List.{take-append-drop, take_all, take_at, drop_at}
use Rattle.script.specs.Sides.{stroke, Sides, SpellsBoth, OpensEither}
use Rattle.script.specs.Finds.{Finds}
use Rattle.script.specs.Hex.{Spells, Opens}
use Rattle.script.proofs.Scanning.{Stops, before_fails, there_stops, place_is}
use Rattle.script.proofs.Spelling.{one_spelling}

-- where the first stroke stands, or the end
abbrev pub place : List ℕ → ℕ
place text = position_or_len stroke text

place_of : {text left right : List ℕ} → Sides text left right → place text ≡ length left
place_of {left = left} {right} s = ap place s.whole ∙ place_is stroke left (codes "/" ++ right) s.clear refl

left_of : {text left right : List ℕ} → Sides text left right → take (place text) text ≡ left
left_of {text} {left} {right} s =
    ap (λ t. take (place text) t) s.whole ∙ take_at left (codes "/" ++ right) _ (sym (place_of s))

rest_of : {text left right : List ℕ} → Sides text left right → drop (place text) text ≡ codes "/" ++ right
rest_of {text} {left} {right} s =
    ap (λ t. drop (place text) t) s.whole ∙ drop_at left (codes "/" ++ right) _ (sym (place_of s))

-- two ways to part a text are the same
pub one_parting : {text left right left' right' : List ℕ} → Sides text left right → Sides text left' right' → (left ≡ left') × (right ≡ right')
one_parting s t =
    let rest = sym (rest_of s) ∙ rest_of t in
    (sym (left_of s) ∙ left_of t, cc)

pub one_both : {text xs ys xs' ys' : List ℕ} → SpellsBoth text xs ys → SpellsBoth text xs' ys' → (xs ≡ xs') × (ys ≡ ys')
one_both {xs' = xs'} {ys' = ys'} s t =
    let same = one_parting t.sides s.sides in
    (one_spelling _ _ _ s.first (subst (λ x. Spells x xs') same.0 t.first), one_spelling _ _ _ s.second (subst (λ x. Spells x ys') same.1 t.second))

-- no stroke stands in a text of which nothing is left at that place
pub no_sides : (text : List ℕ) → drop (place text) text ≡ [] → (left right : List ℕ) → Sides text left right → ⊥
no_sides text none left right s = let rest = sym none ∙ rest_of s in grind arith

-- and else the stroke is the first byte that is left
sides_at : (text right : List ℕ) (b : ℕ) → drop (place text) text ≡ b ∷ right → Sides text (take (place text) text) right
sides_at text right b rest =
    let stops : stroke b ≡ true = subst (Stops stroke) rest (there_stops stroke text) in
    record {
      clear = before_fails stroke text;
      whole =
          sym (take-append-drop (place text) text)
          ∙ ap (λ t. take (place text) text ++ t) (rest ∙ ap (λ x. x ∷ right) (eqb-true b 47 stops));
    }

-- what the sides spell where they are known
pub left_spells : {text left right xs ys : List ℕ} → Sides text left right → SpellsBoth text xs ys → Spells left xs
left_spells {xs = xs} s b = subst (λ x. Spells x xs) (one_parting b.sides s).0 b.first

pub right_spells : {text left right xs ys : List ℕ} → Sides text left right → SpellsBoth text xs ys → Spells right ys
right_spells {ys = ys} s b = subst (λ x. Spells x ys) (one_parting b.sides s).1 b.second

-- what a reader of the sides answers
abbrev pub both_of : Bor (List ℕ) × Bor (List ℕ) → List ℕ × List ℕ
both_of p = (p.0.now, p.1.now)

abbrev pub FindsSides : List ℕ → Option (Bor (List ℕ) × Bor (List ℕ)) → Type 0
FindsSides text o = Finds (λ (p : List ℕ × List ℕ). Sides text p.0 p.1) (option_map both_of o)

pub sides_found : {text : List ℕ} {o : Option (Bor (List ℕ) × Bor (List ℕ))} {left right : Bor (List ℕ)} → o ≡ Some (left, right) → FindsSides text o → Sides text left.now right.now
sides_found {text} is found = subst (FindsSides text) is found

pub none_found : {text : List ℕ} {o : Option (Bor (List ℕ) × Bor (List ℕ))} → o ≡ None → FindsSides text o → (xs ys : List ℕ) → SpellsBoth text xs ys → ⊥
none_found {text} is found xs ys b = subst (FindsSides text) is found (b.left, b.right) b.sides

-- what a reader that cuts a text at that place has before and after the stroke
pub sides_of : (text left rest : List ℕ) → left ≡ take (place text) text → rest ≡ drop (place text) text → 1 ≤ length rest → Sides text left (take (length rest - 1) (drop 1 rest))
sides_of text left [] front back some = absurd (omega arith)
sides_of text left (b ∷ right) front back some =
    let all : take (length (b ∷ right) - 1) right ≡ right = take_all (length (b ∷ right) - 1) right (omega arith) in
    subst (λ l. Sides text l (take (length (b ∷ right) - 1) right)) (sym front) (subst (Sides text (take (place text) text)) (sym all) (sides_at text right b (sym back)))

pub opens_either : {text left right : List ℕ} → Sides text left right → Opens left ⊎ Opens right → OpensEither text
opens_either {left = left} {right} s opens = record { left = left; right = right; sides = s; opens = opens }
