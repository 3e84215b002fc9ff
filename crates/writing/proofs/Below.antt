-- The items of each number below another: what is so of all of them, and how a loop over the numbers puts them into a buffer.
use Rattle.std.proofs.Common.{◌≡◌, ℕ, zero, suc, ◌+◌, ◌*◌, ◌<◌, ◌≤◌, List, [], ◌++◌, length, flat_map, refl, sym, ap, ◌∙◌, subst, length-append, add-one, arith}
use Rattle.std.specs.List.{All}
use Rattle.std.proofs.lemmas.Grind.{flat_map-append}
use Rattle.std.proofs.lemmas.List.Elements.{All-nil, All-append}
use Rattle.certificates.specs.Encoding.{code}
use Rattle.certificates.specs.Items.{Item}
use Rattle.writing.specs.Buffers.{Put, bytes_of}
use Rattle.writing.specs.Writing.{items_below}
use Rattle.writing.proofs.Buffers.{put_nothing, put_after}

module _ (items : ℕ → List Item) where
  bytes_more : (n : ℕ) → bytes_of (items_below items n) ++ bytes_of (items n) ≡ bytes_of (items_below items (n + 1))
  unfolding items_below
  bytes_more n = rw add-one (sym (flat_map-append code (items_below items n) (items n)))

  -- what is so of the items of each number is so of all
  pub all_below : (P : Item → Type 0) (n : ℕ) → ((k : ℕ) → k < n → All P (items k)) → All P (items_below items n)
  unfolding items_below
  all_below P zero each = All-nil P
  all_below P (suc n) each = All-append P (items_below items n) (items n) (all_below P n (λ k low. each k (omega (arith, low)))) (each n (omega arith))

  -- and where those of each number have none of something, neither have all
  pub none_below : {X : Type 0} (of : Item → List X) → ((k : ℕ) → flat_map of (items k) ≡ []) → (n : ℕ) → flat_map of (items_below items n) ≡ []
  unfolding items_below
  none_below of each zero = refl
  none_below of each (suc n) = flat_map-append of (items_below items n) (items n) ∙ (λ i. none_below of each n i ++ each n i)

  pub below_long : (most : ℕ) → ((n : ℕ) → length (bytes_of (items n)) ≤ most) → (n : ℕ) → length (bytes_of (items_below items n)) ≤ most * n
  unfolding items_below
  below_long most each zero = omega arith
  below_long most each (suc n) =
      omega (arith, below_long most each n, each n, ap length (flat_map-append code (items_below items n) (items n)), length-append (bytes_of (items_below items n)) (bytes_of (items n)))

  pub put_none_below : (at : ℕ) (buffer : List ℕ) → Put at (bytes_of (items_below items 0)) buffer at buffer
  unfolding items_below
  put_none_below = put_nothing

  -- those of one number more
  pub put_more_below : (k : ℕ) {at m n : ℕ} {before between after : List ℕ} → at ≤ length before → Put at (bytes_of (items_below items k)) before m between → Put m (bytes_of (items k)) between n after → Put at (bytes_of (items_below items (k + 1))) before n after
  put_more_below k {at} {m} {n} {before} {between} {after} inside first second = subst (λ bytes. Put at bytes before n after) (bytes_more k) (put_after inside first second)
