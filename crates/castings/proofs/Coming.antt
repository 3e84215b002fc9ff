-- Which castings come at a place or after it.
use Rattle.std.proofs.Common.{◌≡◌, ◌≢◌, ℕ, zero, suc, ◌+◌, ◌<◌, ◌≤◌, ◌⊎◌, Bool, true, false, eqb, List, [], ◌∷◌, slice_get, unwrap_or, Some, None, Option, inl, inr, refl, sym, ap, subst, ⊎_elim, add-one, arith}
use Rattle.std.proofs.lemmas.Bool.Decides.{eqb_tells}
use Rattle.model.specs.declared.stamp.Stamp.{Stamp}
use Rattle.scheme.specs.Commands.{Command}
use Rattle.certificates.specs.Certificates.{Certificate, Apart, stamp_at}
use Rattle.certificates.proofs.Stamps.{place_found}
use Rattle.castings.specs.Castings.{Casting}
use Rattle.castings.specs.Closure.{Closed}
use Rattle.castings.specs.Places.{rank, ComesAt, ClosedAt, first_at, rest_of}

-- Each casting comes at the first place or after it.
module _ (c : Certificate) (σ : Casting) where
  at_least : (r : ℕ) → (0 < r) ⊎ (0 ≡ r)
  at_least zero = inr refl
  at_least (suc r) = inl (omega arith)

  comes_more : (i : ℕ) (place : List ℕ) → ComesAt c σ (suc i) place → ComesAt c σ i (0 ∷ place)
  comes_more i place comes =
      ⊎_elim
      (λ (after : 0 < rank c (σ i)). inl after)
      (λ (at : 0 ≡ rank c (σ i)). inr (at, comes))
      (at_least (rank c (σ i)))

  comes_first : ComesAt c σ 0 (0 ∷ 0 ∷ 0 ∷ [])
  comes_first = comes_more 0 (0 ∷ 0 ∷ []) (comes_more 1 (0 ∷ []) (comes_more 2 [] tt))

-- so what is closed from there on is closed
pub closed_at_all : (covers : (k a b : ℕ) → Bool) (c : Certificate) (m : Command) → ClosedAt covers c m (0 ∷ 0 ∷ 0 ∷ []) → Closed covers c m
closed_at_all covers c m closed σ casts pass = closed σ casts pass (comes_first c σ)

module _ (c : Certificate) (apart : Apart c.stamps) where
  -- the stamp of a number is ranked by it, and where there is none, that is at 0
  rank_at_most : (number : Option ℕ) → rank c (stamp_at c number) ≤ unwrap_or number 0
  rank_at_most None = omega arith
  rank_at_most (Some k) = by (slice_get c.stamps k) refl
    where
      by : (o : Option Stamp) → slice_get c.stamps k ≡ o → rank c o ≤ k
      by None here = omega arith
      by (Some s) here = omega (arith, ap (λ n. unwrap_or n 0) (place_found c.stamps s k apart here))

  module _ (τ : Casting) (d : ℕ) (number : Option ℕ) (here : τ d ≡ stamp_at c number) where
    low : rank c (τ d) ≤ unwrap_or number 0
    low = subst (λ s. rank c s ≤ unwrap_or number 0) (sym here) (rank_at_most number)

    -- one whose parameter has a number below the place's does not
    pub not_before : (place : List ℕ) → unwrap_or number 0 < first_at place → ComesAt c τ d place → ⊥
    not_before [] less comes = omega (arith, less)
    not_before (n ∷ place) less comes =
        ⊎_elim
        (λ (after : n < rank c (τ d)). omega (arith, less, after, low))
        (λ (at : (n ≡ rank c (τ d)) × ComesAt c τ (suc d) place). omega (arith, less, at.0, low))
        comes

    -- and one that does, does so by what is left of the place
    pub comes_on : (place : List ℕ) → ComesAt c τ d place → ComesAt c τ (d + 1) (rest_of place number)
    comes_on place comes = rw add-one (on number low place comes)
      where
        same : (n : ℕ) (place : List ℕ) → rank c (τ d) ≤ n → ComesAt c τ d (n ∷ place) → ComesAt c τ (suc d) place
        same n place most comes =
            ⊎_elim
            (λ (after : n < rank c (τ d)). absurd (omega (arith, after, most)))
            (λ (at : (n ≡ rank c (τ d)) × ComesAt c τ (suc d) place). at.1)
            comes

        on : (o : Option ℕ) → rank c (τ d) ≤ unwrap_or o 0 → (place : List ℕ) → ComesAt c τ d place → ComesAt c τ (suc d) (rest_of place o)
        on o most [] comes = tt
        on None most (n ∷ place) comes = same n place (omega (arith, most)) comes
        on (Some k) most (n ∷ place) comes =
            ⊎_elim
            (λ (is : (eqb k n ≡ true) × (k ≡ n)). rw is.0 (same n place (omega (arith, most, is.1)) comes))
            (λ (other : (eqb k n ≡ false) × (k ≢ n)). rw other.0 tt)
            (eqb_tells k n)
