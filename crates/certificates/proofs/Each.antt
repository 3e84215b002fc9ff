-- What is so of each element of a list, as a loop over them comes to them.
use Rattle.std.proofs.Common.{◌≡◌, ℕ, ◌+◌, ◌<◌, ◌≤◌, List, length, get_or, slice_get, Some, sym, ap, ◌∙◌, subst, ⊎_elim, arith}
use Rattle.std.proofs.lemmas.Bool.{cases_eq}
use Rattle.std.proofs.lemmas.Option.{same_Some, slice_get-get_or, slice_get_within}

-- this is so of each of the first k
abbrev pub EachBelow : {X : Type 0} → (P : X → Type 0) → List X → (k : ℕ) → Type 0
EachBelow {X} P xs k = (n : ℕ) (x : X) → n < k → slice_get xs n ≡ Some x → P x

module _ {X : Type 0} (P : X → Type 0) (xs : List X) where
  pub each_none : EachBelow P xs 0
  each_none n x low there = absurd (omega (arith, low))

  -- one more, that is there
  pub each_with : (k : ℕ) (y : X) → slice_get xs k ≡ Some y → EachBelow P xs k → P y → EachBelow P xs (k + 1)
  each_with k y at each here n x low there =
      ⊎_elim
      (λ (same : n ≡ k). subst P (same_Some y x (sym at ∙ ap (slice_get xs) (sym same) ∙ there)) here)
      (λ (other : n ≡ k → ⊥). each n x (omega (arith, low, other)) there)
      (cases_eq n k)

  pub each_more : (k : ℕ) (d : X) → k < length xs → EachBelow P xs k → P (get_or xs k d) → EachBelow P xs (k + 1)
  each_more k d low each here = each_with k (get_or xs k d) (slice_get-get_or xs k d low) each here

  -- all of them
  pub each_there : (k : ℕ) → length xs ≤ k → EachBelow P xs k → (n : ℕ) (x : X) → slice_get xs n ≡ Some x → P x
  each_there k all each n x there = each n x (omega (arith, all, slice_get_within xs n x there)) there
