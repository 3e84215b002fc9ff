-- A list without two elements that are the same, each of them in another list, counts for no more than that one.
use Rattle.std.proofs.Common.{◌≡◌, ℕ, zero, suc, ◌-◌, ◌<◌, ◌≤◌, ◌≢◌, List, [], ◌∷◌, length, get_or, slice_get, Some, refl, sym, ap, ◌∙◌, ⊎_elim, arith}
use Rattle.std.specs.List.{sum_by, remove}
use Rattle.std.proofs.lemmas.Bool.{cases_lt}
use Rattle.std.proofs.lemmas.List.Edits.{length-remove, get_or-remove_below, get_or-remove_above}
use Rattle.std.proofs.lemmas.List.Sums.{sum_by-cons, sum_by-remove}
use Rattle.std.proofs.lemmas.Option.{slice_get_within, slice_get_read, get_or_from_slice_get}

-- no element stands at two places
abbrev pub NoTwo : {X : Type 0} → List X → Type 0
NoTwo {X} xs = (m n : ℕ) (x : X) → slice_get xs m ≡ Some x → slice_get xs n ≡ Some x → m ≡ n

-- the element stands at some place
abbrev pub In : {X : Type 0} → List X → X → Type 0
In ys x = (n : ℕ) × (slice_get ys n ≡ Some x)

-- each element of the one stands in the other
abbrev pub Included : {X : Type 0} → List X → List X → Type 0
Included {X} xs ys = (n : ℕ) (x : X) → slice_get xs n ≡ Some x → In ys x

module _ {X : Type 0} where
  -- what stands at another place stands there still when one element is removed
  left_in : (ys : List X) (m k : ℕ) (y z : X) → slice_get ys m ≡ Some y → slice_get ys k ≡ Some z → k ≢ m → In (remove ys m) z
  left_in ys m k y z at_m at_k other =
      let low = slice_get_within ys m y at_m in
      let inside = slice_get_within ys k z at_k in
      let short = length-remove ys m low in
      let here = get_or_from_slice_get ys k z z at_k in
      let found : (j : ℕ) → j < length (remove ys m) → get_or (remove ys m) j z ≡ z → In (remove ys m) z =
      λ j lt is. (j, slice_get_read (remove ys m) (length (remove ys m)) j z refl lt (sym is)) in
      ⊎_elim
      (λ (below : k < m). found k (omega (arith, below, low, short)) (get_or-remove_below ys m z k below low ∙ here))
      (λ (above : m ≤ k).
      found (k - 1) (omega (arith, above, inside, other, short))
      (get_or-remove_above ys m z (k - 1) (omega (arith, above, other)) low ∙ ap (λ n. get_or ys n z) (omega (arith, above, other)) ∙ here))
      (cases_lt k m)

  pub included_bound : (f : X → ℕ) (xs ys : List X) → NoTwo xs → Included xs ys → sum_by f xs ≤ sum_by f ys
  included_bound f [] ys apart inside = omega arith
  included_bound f (x ∷ xs) ys apart inside =
      let at = inside zero x refl in
      let low = slice_get_within ys at.0 x at.1 in
      let others : Included xs (remove ys at.0) =
      λ n z there.
      let place = inside (suc n) z there in
      left_in ys at.0 place.0 x z at.1 place.1 (λ same.
      let first : slice_get (x ∷ xs) zero ≡ Some z = sym at.1 ∙ ap (slice_get ys) (sym same) ∙ place.1 in
      omega (arith, apart zero (suc n) z first there)) in
      let rest = included_bound f xs (remove ys at.0) (λ m n z h k. omega (arith, apart (suc m) (suc n) z h k)) others in
      omega (arith, sum_by-cons f x xs, sum_by-remove f ys at.0 x low, ap f (get_or_from_slice_get ys at.0 x x at.1), rest)

  counted : (xs : List X) → sum_by (λ x. 1) xs ≡ length xs
  counted [] = refl
  counted (x ∷ xs) = omega (arith, sum_by-cons (λ x. 1) x xs, counted xs)

  pub included_length : (xs ys : List X) → NoTwo xs → Included xs ys → length xs ≤ length ys
  included_length xs ys apart inside = omega (arith, included_bound (λ x. 1) xs ys apart inside, counted xs, counted ys)
