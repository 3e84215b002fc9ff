-- The masks of a certificate, at their places.
use Rattle.std.proofs.Common.{◌≡◌, ℕ, zero, suc, ◌+◌, ◌*◌, ◌<◌, ◌≤◌, Bool, true, false, cond, ◌&&◌, eqb, ltb, List, length, get_or, set, replicate, bit_or, refl, sym, ap, ◌∙◌, ⊎_elim, arith, get_or-set_same, get_or-set_other}
use Rattle.std.proofs.lemmas.Bool.{cases_lt, cases_eq, and_right, eq-eqb, ne_eqb, lt-ltb, le-ltb}
use mathlib.Core.Path.{fun_ext}
use Rattle.stores.specs.Matrices.{Matrix, blank, written}
use Rattle.certificates.specs.Places.{masks_of}

-- two matrices that agree at each pair of numbers are one
pub same_matrix : (f g : Matrix) → ((u v : ℕ) → f u v ≡ g u v) → f ≡ g
same_matrix f g same = fun_ext (λ u. fun_ext (λ v. same u v))

zero_at : (n i : ℕ) → get_or (replicate {A = ℕ} n 0) i 0 ≡ 0
zero_at zero i = refl
zero_at (suc n) zero = refl
zero_at (suc n) (suc i) = zero_at n i

pub none_if : (b : Bool) (m : ℕ) → m ≡ 0 → cond b m 0 ≡ 0
none_if true m none = none
none_if false m none = refl

pub none_allowed : masks_of (replicate {A = ℕ} 1024 0) ≡ blank
none_allowed =
    same_matrix (masks_of (replicate 1024 0)) blank
    (λ u v. none_if (ltb u 32 && ltb v 32) (get_or (replicate 1024 0) (32 * u + v) 0) (zero_at 1024 (32 * u + v)))

-- the mask of two numbers that have one
pub mask_at : (masks : List ℕ) (u v : ℕ) → u < 32 → v < 32 → masks_of masks u v ≡ get_or masks (32 * u + v) 0
mask_at masks u v hu hv = rw (lt-ltb u 32 hu, lt-ltb v 32 hv) refl

-- A mask set at the place of two numbers is theirs, and those of all others are as they were.
module _ (masks : List ℕ) (u v m : ℕ) (long : length masks ≡ 1024) (hu : u < 32) (hv : v < 32) where
  abbrev after : List ℕ
  after = set masks (32 * u + v) m

  set_here : masks_of after u v ≡ m
  set_here = mask_at after u v hu hv ∙ get_or-set_same masks (32 * u + v) m 0 (omega (arith, long))

  set_there : (a b : ℕ) → a < 32 → b < 32 → ((a ≡ u) → (b ≡ v) → ⊥) → masks_of after a b ≡ masks_of masks a b
  set_there a b ha hb other =
      mask_at after a b ha hb
      ∙ get_or-set_other masks (32 * u + v) (32 * a + b) m 0 (λ e. other (omega (arith, e)) (omega (arith, e)))
      ∙ sym (mask_at masks a b ha hb)

  pub mask_set : masks_of after ≡ written (masks_of masks) u v m
  mask_set = same_matrix (masks_of after) (written (masks_of masks) u v m) at
    where
      at : (a b : ℕ) → masks_of after a b ≡ written (masks_of masks) u v m a b
      at a b =
          ⊎_elim
          (λ (low : a < 32).
          ⊎_elim
          (λ (low' : b < 32).
          ⊎_elim
          (λ (row : a ≡ u).
          ⊎_elim
          (λ (column : b ≡ v). ap (λ x. masks_of after x b) row ∙ ap (masks_of after u) column ∙ set_here ∙ sym (rw (eq-eqb a u row, eq-eqb b v column) refl))
          (λ (other : (b ≡ v) → ⊥). set_there a b low low' (λ r c. other c) ∙ sym (rw (ne_eqb b v other, and_right (eqb a u) false refl) refl))
          (cases_eq b v))
          (λ (other : (a ≡ u) → ⊥). set_there a b low low' (λ r c. other r) ∙ sym (rw (ne_eqb a u other) refl))
          (cases_eq a u))
          (λ (over : 32 ≤ b). rw (and_right (ltb a 32) (ltb b 32) (le-ltb b 32 over), ne_eqb b v (λ same. omega (arith, same)), and_right (eqb a u) false refl) refl)
          (cases_lt b 32))
          (λ (over : 32 ≤ a). rw (le-ltb a 32 over, ne_eqb a u (λ same. omega (arith, same))) refl)
          (cases_lt a 32)

-- and so is one that was added to what was there
pub mask_more : (masks : List ℕ) (u v place m mask : ℕ) → length masks ≡ 1024 → (u < 32) × (v < 32) × (place ≡ 32 * u + v) → m ≡ bit_or (get_or masks place 0) mask → masks_of (set masks place m) ≡ written (masks_of masks) u v (bit_or (masks_of masks u v) mask)
mask_more masks u v place m mask long here is =
    ap (λ p. masks_of (set masks p m)) here.2
    ∙ mask_set masks u v m long here.0 here.1
    ∙ ap (written (masks_of masks) u v) (is ∙ ap (λ p. bit_or (get_or masks p 0) mask) here.2 ∙ ap (λ x. bit_or x mask) (sym (mask_at masks u v here.0 here.1)))
