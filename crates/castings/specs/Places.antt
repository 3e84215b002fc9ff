-- The castings of a command in a row: by the number of the first parameter's stamp, then of the second's, then of the third's.
use Rattle.std.specs.Prelude.{◌≡◌, ℕ, suc, ◌<◌, Bool, ⊤, ◌⊎◌, List, [], ◌∷◌, Some, None, Option, unwrap_or, cond, nat_eq}
use Rattle.model.specs.declared.stamp.Stamp.{Stamp}
use Rattle.scheme.specs.Commands.{Command}
use Rattle.protection.specs.Excerpts.{renewed}
use Rattle.certificates.specs.Certificates.{Certificate, number_of}
use Rattle.castings.specs.declared.escape.Escape.{Escape}
use Rattle.castings.specs.Castings.{Casting, Casts, cast_state, Passes}
use Rattle.castings.specs.Closure.{Keeps, outcome_of}
use Rattle.castings.specs.Escapes.{casting_of}

-- The number by which a parameter is put in that row. One that is not cast has none, and 0 here.
abbrev pub rank : Certificate → Option Stamp → ℕ
rank c None = 0
rank c (Some s) = unwrap_or (number_of c s) 0

-- the place of the casting that is shown
abbrev pub place_of : Certificate → Escape → List ℕ
place_of c e = rank c (casting_of e 0) ∷ rank c (casting_of e 1) ∷ rank c (casting_of e 2) ∷ []

-- from parameter i on, the casting comes at this place or after it
abbrev pub ComesAt : Certificate → Casting → (i : ℕ) → (place : List ℕ) → Type 0
ComesAt c σ i [] = ⊤
ComesAt c σ i (n ∷ place) = (n < rank c (σ i)) ⊎ ((n ≡ rank c (σ i)) × ComesAt c σ (suc i) place)

-- the least number that the next parameter has, in castings that come at this place or after it
abbrev pub first_at : (place : List ℕ) → ℕ
first_at [] = 0
first_at (n ∷ place) = n

-- What is left of the place once the next parameter has this number, or none. Where the number is a later one than the place's,
-- the casting comes after it, whatever follows.
abbrev pub rest_of : (place : List ℕ) → (number : Option ℕ) → List ℕ
rest_of [] number = []
rest_of (n ∷ place) None = place
rest_of (n ∷ place) (Some k) = cond (nat_eq k n) place []

-- closed under the command, as far as castings come at this place or after it
abbrev pub ClosedAt : (covers : (k a b : ℕ) → Bool) → Certificate → Command → (place : List ℕ) → Type 0
ClosedAt covers c m place =
    (σ : Casting)
    → Casts c m σ
    → Passes covers m (cast_state c σ)
    → ComesAt c σ 0 place
    → Keeps c (renewed m.steps) (cast_state c σ) (outcome_of c m σ)
