-- The two bytes of a mask.
use Rattle.std.proofs.Common.{◌≡◌, ℕ, ◌+◌, ◌*◌, List, [], ◌∷◌, length, get_or, Some, Option, refl, ap, ◌∙◌, subst, arith}
use Rattle.script.specs.Hex.{digit_value, both_digits, byte_value, Mask, four_digits}
use Rattle.script.proofs.Spelling.{digits_of}

pub record Bytes (word : List ℕ) (mask : ℕ) : Type 0 where
  pub high : ℕ
  pub low : ℕ
  pub long : length word ≡ 4
  pub high_is : byte_value (get_or word 0 0) (get_or word 1 0) ≡ Some high
  pub low_is : byte_value (get_or word 2 0) (get_or word 3 0) ≡ Some low
  pub whole : mask ≡ 256 * high + low

both : (x y : Option ℕ) (p q : ℕ) → x ≡ Some p → y ≡ Some q → both_digits x y ≡ Some (16 * p + q)
both x y p q h l = ap (λ o. both_digits o y) h ∙ ap (both_digits (Some p)) l

pub bytes_of : {word : List ℕ} {mask : ℕ} → Mask word mask → Bytes word mask
bytes_of (four_digits {a} {b} {c} {d} {p} {q} {r} {s} a-is b-is c-is d-is) = record {
  high = 16 * p + q;
  low = 16 * r + s;
  long = refl;
  high_is = both (digit_value a) (digit_value b) p q a-is b-is;
  low_is = both (digit_value c) (digit_value d) r s c-is d-is;
  whole = omega arith;
}

pub mask_of : (word : List ℕ) (mask : ℕ) → Bytes word mask → Mask word mask
mask_of [] mask h = absurd (omega (arith, h.long))
mask_of (a ∷ []) mask h = absurd (omega (arith, h.long))
mask_of (a ∷ b ∷ []) mask h = absurd (omega (arith, h.long))
mask_of (a ∷ b ∷ c ∷ []) mask h = absurd (omega (arith, h.long))
mask_of (a ∷ b ∷ c ∷ d ∷ []) mask h =
    let x = digits_of (digit_value a) (digit_value b) h.high h.high_is in
    let y = digits_of (digit_value c) (digit_value d) h.low h.low_is in
    let whole : 4096 * x.0 + 256 * x.1 + 16 * y.0 + y.1 ≡ mask = omega (arith, x.4, y.4, h.whole) in
    subst (Mask (a ∷ b ∷ c ∷ d ∷ [])) whole (four_digits x.2 x.3 y.2 y.3)
mask_of (a ∷ b ∷ c ∷ d ∷ e ∷ word) mask h = absurd (omega (arith, h.long))

pub one_mask : {word : List ℕ} {m n : ℕ} → Mask word m → Mask word n → m ≡ n
one_mask s t =
    let p = bytes_of s in
    let q = bytes_of t in
    let high : p.high ≡ q.high = cc in
    let low : p.low ≡ q.low = cc in
    omega arith
