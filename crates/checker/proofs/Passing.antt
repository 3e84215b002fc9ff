-- The casting of a request that passes its tests passes them too: a cell holds no more than the certificate allows.
use Rattle.std.proofs.Common.{◌≡◌, ℕ, ◌+◌, ◌<◌, ◌≤◌, Bool, true, false, not, ◌&&◌, ltb, List, [], ◌∷◌, length, None, sym, ap, refl, ◌∙◌, ⊎_elim, arith}
use Rattle.std.specs.List.{list_all, position, position_or_len}
use Rattle.std.proofs.lemmas.Bool.{cases_lt, and_parts, and_from, ltb-true, lt-ltb}
use Rattle.std.proofs.lemmas.Option.{none-some}
use Rattle.model.specs.Masks.{has}
use Rattle.model.specs.Scales.{both_cover}
use Rattle.model.specs.Stamps.{same_value}
use Rattle.scheme.specs.declared.test.Test.{Test}
use Rattle.scheme.specs.declared.test.Test.TheVariants.{Holds, Is, IsNot, Covers}
use Rattle.scheme.specs.Commands.{test_fits}
use Rattle.scheme.specs.Tests.{test_shaped, test_row_declared}
use Rattle.protection.specs.Commands.{name_at, seen, passes}
use Rattle.protection.specs.States.{Protection, attribute_at}
use Rattle.certificates.specs.Certificates.{Certificate, between}
use Rattle.castings.specs.Castings.{Casting, cast_state}
use Rattle.checker.specs.Containing.{Contains}

-- where nothing that fails is found, all pass
all_pass : {X : Type 0} (f : X → Bool) (xs : List X) → length xs ≤ position_or_len (λ x. not (f x)) xs → list_all f xs ≡ true
all_pass f [] long = refl
all_pass f (x ∷ xs) long = by (f x) refl (all_pass f xs)
  where
    by : (b : Bool) → f x ≡ b → (length xs ≤ position_or_len (λ y. not (f y)) xs → list_all f xs ≡ true) → list_all f (x ∷ xs) ≡ true
    by true is rest =
        let more : position_or_len (λ y. not (f y)) (x ∷ xs) ≡ 1 + position_or_len (λ y. not (f y)) xs = rw is refl in
        and_from (f x) (list_all f xs) is (rest (omega arith))
    by false is rest =
        let none : position_or_len (λ y. not (f y)) (x ∷ xs) ≡ 0 = rw is refl in
        absurd (omega arith)

pub none_fails : {X : Type 0} (f : X → Bool) (xs : List X) → position (λ x. not (f x)) xs ≡ None → list_all f xs ≡ true
none_fails f xs none =
    let first = position_or_len (λ x. not (f x)) xs in
    ⊎_elim
    (λ (inside : first < length xs). absurd (none-some first (sym none ∙ rw (lt-ltb first (length xs) inside) refl)))
    (λ (past : length xs ≤ first). all_pass f xs past)
    (cases_lt first (length xs))

-- where an end of what is cast is what stands, for each parameter
module _ (covers : ℕ → ℕ → ℕ → Bool) (c : Certificate) (n cards : ℕ) (names : List ℕ) (p : Protection) (contains : Contains c p) (σ : Casting) (as_cast : (i : ℕ) → i < n → σ i ≡ p.entry (name_at names i)) where
  pub within_cast : (i j : ℕ) → i < n → j < n → (r : ℕ) → has (p.cells (name_at names i) (name_at names j)) r ≡ true → has (between c (σ i) (σ j)) r ≡ true
  within_cast i j row column r h =
      let same : between c (σ i) (σ j) ≡ between c (p.entry (name_at names i)) (p.entry (name_at names j)) = λ t. between c (as_cast i row t) (as_cast j column t) in
      ap (λ m. has m r) same ∙ contains.cells (name_at names i) (name_at names j) r h

  one_passes : (t : Test) → test_shaped n t ≡ true → passes covers (seen (name_at names) p) t ≡ true → passes covers (cast_state c σ) t ≡ true
  one_passes (Holds r i j) shaped h =
      let ends = and_parts (ltb i n) (ltb j n) (and_parts (ltb r 16) (ltb i n && ltb j n) shaped).1 in
      within_cast i j (ltb-true i n ends.0) (ltb-true j n ends.1) r h
  one_passes (Is i k v) shaped h =
      let row = ltb-true i n (and_parts (ltb i n) (ltb k 4) shaped).0 in
      ap (λ e. same_value (attribute_at e k) v) (as_cast i row) ∙ h
  one_passes (IsNot i k v) shaped h =
      let row = ltb-true i n (and_parts (ltb i n) (ltb k 4) shaped).0 in
      ap (λ e. not (same_value (attribute_at e k) v)) (as_cast i row) ∙ h
  one_passes (Covers i k j) shaped h =
      let parts = and_parts (ltb i n) (ltb k 4 && ltb j n) shaped in
      let row = ltb-true i n parts.0 in
      let column = ltb-true j n (and_parts (ltb k 4) (ltb j n) parts.1).1 in
      let same : both_cover (covers k) (attribute_at (σ i) k) (attribute_at (σ j) k) ≡ both_cover (covers k) (attribute_at (p.entry (name_at names i)) k) (attribute_at (p.entry (name_at names j)) k) = λ t. both_cover (covers k) (attribute_at (as_cast i row t) k) (attribute_at (as_cast j column t) k) in
      same ∙ h

  pub all_passes : (tests : List Test) → list_all (test_fits n cards) tests ≡ true → list_all (passes covers (seen (name_at names) p)) tests ≡ true → list_all (passes covers (cast_state c σ)) tests ≡ true
  all_passes [] fits h = refl
  all_passes (t ∷ tests) fits h =
      let shaped = and_parts (test_fits n cards t) (list_all (test_fits n cards) tests) fits in
      let passed = and_parts (passes covers (seen (name_at names) p) t) (list_all (passes covers (seen (name_at names) p)) tests) h in
      and_from (passes covers (cast_state c σ) t) (list_all (passes covers (cast_state c σ)) tests)
      (one_passes t (and_parts (test_shaped n t) (test_row_declared cards t) shaped.0).0 passed.0)
      (all_passes tests shaped.1 passed.1)
