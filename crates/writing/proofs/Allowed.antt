-- The masks that items list: those of a certificate are read back from its items.
use Rattle.std.proofs.Common.{◌≡◌, ℕ, zero, suc, ◌/◌, ◌%◌, Bool, true, false, cond, ◌&&◌, eqb, ltb, List, [], ◌∷◌, fold, bit_or, sym, refl, ap, ◌∙◌, arith}
use Rattle.std.proofs.lemmas.Bool.{and_parts, eqb-true, ltb-false}
use Rattle.std.proofs.lemmas.Bool.Decides.{nat_tests}
use Rattle.std.proofs.lemmas.Grind.{fold-append}
use Rattle.std.proofs.Math.Nat.{div-add-mod}
use Rattle.std.specs.Int.Bits.{or_zero_l}
use Rattle.stores.specs.Matrices.{Matrix, written}
use Rattle.certificates.specs.Certificates.{Certificate}
use Rattle.certificates.specs.Items.{Item, allow, mask_of, with_item}
use Rattle.writing.specs.Writing.{mask_items, items_below}

-- the masks after some items
abbrev pub masks_after : Certificate → List Item → Matrix
masks_after c items = (fold with_item c items).masks

-- One mask, where there was none.
module _ (c : Certificate) (u v mask a b : ℕ) (none : c.masks u v ≡ 0) where
  mask_after : masks_after c (mask_items u v mask) a b ≡ written c.masks u v mask a b
  mask_after = by (ltb 0 mask) refl
    where
      by : (some : Bool) → ltb 0 mask ≡ some → masks_after c (cond some (allow u v (mask / 256) (mask % 256) ∷ []) []) a b ≡ written c.masks u v mask a b
      by true some =
          let sum : bit_or (c.masks u v) (mask_of (mask / 256) (mask % 256)) ≡ mask =
          ap (λ m. bit_or m (mask_of (mask / 256) (mask % 256))) none ∙ or_zero_l _ ∙ div-add-mod mask 256 in
          ap (λ m. written c.masks u v m a b) sum
      by false empty = same (eqb a u && eqb b v) refl
        where
          same : (here : Bool) → (eqb a u && eqb b v) ≡ here → c.masks a b ≡ cond here mask (c.masks a b)
          same true here =
              let parts = and_parts _ _ here in
              ap (λ x. c.masks x b) (eqb-true a u parts.0) ∙ ap (c.masks u) (eqb-true b v parts.1) ∙ none ∙ omega (arith, ltb-false 0 mask empty)
          same false there = refl

-- What the tests of two numbers come to, as one number more is taken in.
none_here : (u n x y : ℕ) → y ≡ 0 → cond (eqb u u && ltb n n) x y ≡ 0
none_here u n x y none = grind (arith, nat_tests)

no_row : (n b long x : ℕ) → cond (ltb n n && ltb b long) x 0 ≡ 0
no_row n b long x = grind (arith, nat_tests)

column_more : (a b u n x y z : ℕ) → (b ≡ n → x ≡ y) → cond (eqb a u && eqb b n) x (cond (eqb a u && ltb b n) y z) ≡ cond (eqb a u && ltb b (suc n)) y z
column_more a b u n x y z same = grind (arith, nat_tests)

row_more : (a b n long x y : ℕ) → (a ≡ n → x ≡ y) → cond (eqb a n && ltb b long) x (cond (ltb a n && ltb b long) y 0) ≡ cond (ltb a (suc n) && ltb b long) y 0
row_more a b n long x y same = grind (arith, nat_tests)

-- A mask for each number below n, where the row had none.
module _ (f : ℕ → ℕ) (c : Certificate) (u : ℕ) (none : (b : ℕ) → c.masks u b ≡ 0) where
  abbrev cells : ℕ → List Item
  cells v = mask_items u v (f v)

  row_after : (n a b : ℕ) → masks_after c (items_below cells n) a b ≡ cond (eqb a u && ltb b n) (f b) (c.masks a b)
  unfolding items_below
  row_after zero a b = grind (arith, nat_tests)
  row_after (suc n) a b =
      let before = fold with_item c (items_below cells n) in
      ap (λ t. t.masks a b) (fold-append with_item c (items_below cells n) (cells n))
      ∙ mask_after before u n (f n) a b (row_after n u n ∙ none_here u n (f n) (c.masks u n) (none n))
      ∙ ap (cond (eqb a u && eqb b n) (f n)) (row_after n a b)
      ∙ column_more a b u n (f n) (f b) (c.masks a b) (λ same. ap f (sym same))

-- And a row of them for each number below n, where there were none.
module _ (f : ℕ → ℕ → ℕ) (long : ℕ) (c : Certificate) (none : (a b : ℕ) → c.masks a b ≡ 0) where
  abbrev rows : ℕ → List Item
  rows u = items_below (λ v. mask_items u v (f u v)) long

  pub rows_after : (n a b : ℕ) → masks_after c (items_below rows n) a b ≡ cond (ltb a n && ltb b long) (f a b) 0
  unfolding items_below
  rows_after zero a b = none a b ∙ grind (arith, nat_tests)
  rows_after (suc n) a b =
      let before = fold with_item c (items_below rows n) in
      let empty : (b : ℕ) → before.masks n b ≡ 0 = λ b. rows_after n n b ∙ no_row n b long (f n b) in
      ap (λ t. t.masks a b) (fold-append with_item c (items_below rows n) (rows n))
      ∙ row_after (f n) before n empty long a b
      ∙ ap (cond (eqb a n && ltb b long) (f n b)) (rows_after n a b)
      ∙ row_more a b n long (f n b) (f a b) (λ same. ap (λ x. f x b) (sym same))
