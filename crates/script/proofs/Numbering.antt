-- The number that a word writes, worked out from its front, and that this is what `Number` says.
use Rattle.std.proofs.Common.{◌≡◌, ℕ, ◌+◌, ◌*◌, ◌^◌, ◌<◌, ◌≤◌, List, [], ◌∷◌, length, get_or, drop, Some, None, Option, sym, refl, ap, ◌∙◌, subst, mul_assoc, add-mul, pow-suc, zero-mul, arith}
use Rattle.std.proofs.lemmas.List.{at_drop_more}
use Rattle.script.specs.Numbers.{decimal_value, Number, one_digit, more_digits, Longer}

abbrev followed : Option ℕ → ℕ → (ℕ → Option ℕ) → Option ℕ
followed None m after = None
followed (Some d) m after = after (10 * m + d)

-- what a word writes with the number m in front of it
abbrev pub worth : List ℕ → ℕ → Option ℕ
worth [] m = Some m
worth (b ∷ word) m = followed (decimal_value b) m (worth word)

digit_of : (o : Option ℕ) (m : ℕ) (after : ℕ → Option ℕ) (n : ℕ) → followed o m after ≡ Some n → (d : ℕ) × (o ≡ Some d) × (after (10 * m + d) ≡ Some n)
digit_of None m after n e = absurd (grind arith)
digit_of (Some d) m after n e = (d, refl, e)

-- each digit behind m makes ten of one
complete : {word : List ℕ} {n : ℕ} → Number word n → (m : ℕ) → worth word m ≡ Some (m * 10 ^ length word + n)
complete (one_digit {b} {d} is) m = ap (λ o. followed o m (worth [])) is ∙ ap Some (omega arith)
complete (more_digits {b} {d} {n} {word} is s) m =
    let weight = 10 ^ length word in
    let front : 10 ^ length (b ∷ word) ≡ weight * 10 = pow-suc 10 (length word) in
    ap (λ o. followed o m (worth word)) is
    ∙ complete s (10 * m + d)
    ∙ ap Some (omega (arith, add-mul (10 * m) d weight, mul_assoc 10 m weight, mul_assoc m weight 10, ap (λ w. m * w) front))

pub worth_is : {word : List ℕ} {n : ℕ} → Number word n → worth word 0 ≡ Some n
worth_is {word} {n} s = complete s 0 ∙ ap Some (omega (arith, zero-mul (10 ^ length word)))

-- what has a worth is written in digits
digits : (b : ℕ) (word : List ℕ) (m n : ℕ) → worth (b ∷ word) m ≡ Some n → (k : ℕ) × Number (b ∷ word) k
digits b [] m n e = let p = digit_of (decimal_value b) m (worth []) n e in (p.0, one_digit p.1)
digits b (c ∷ word) m n e =
    let p = digit_of (decimal_value b) m (worth (c ∷ word)) n e in
    let q = digits c word (10 * m + p.0) n p.2 in
    (_, more_digits p.1 q.1)

pub number_from : (word : List ℕ) (n : ℕ) → 0 < length word → worth word 0 ≡ Some n → Number word n
number_from [] n some e = absurd (omega arith)
number_from (b ∷ word) n some e =
    let q = digits b word 0 n e in
    let w = worth_is q.1 in
    let same : q.0 ≡ n = cc in
    subst (Number (b ∷ word)) same q.1

pub one_number : {word : List ℕ} {m n : ℕ} → Number word m → Number word n → m ≡ n
one_number s t = let p = worth_is s in let q = worth_is t in cc

-- more digits never make a number less
grows : (word : List ℕ) (m n : ℕ) → worth word m ≡ Some n → m ≤ n
grows [] m n e = let same : m ≡ n = cc in omega arith
grows (b ∷ word) m n e = let p = digit_of (decimal_value b) m (worth word) n e in omega (arith, grows word (10 * m + p.0) n p.2)

-- one step of a reader, with the number m for the digits before it
module _ (word : List ℕ) (i m : ℕ) (inside : i < length word) where
  opened : worth (drop i word) m ≡ worth (get_or word i 0 ∷ drop (i + 1) word) m
  opened = at_drop_more (λ t. worth t m) word i 0 inside

  -- where no digit can follow within the bound, the whole is not within it
  pub no_longer : (most : ℕ) → ((n : ℕ) → Longer m (get_or word i 0) n × (n ≤ most) → ⊥) → (n : ℕ) → worth (drop i word) m ≡ Some n → n ≤ most → ⊥
  no_longer most none n e le =
      let p = digit_of (decimal_value (get_or word i 0)) m (worth (drop (i + 1) word)) n (sym opened ∙ e) in
      none (10 * m + p.0) (record { digit = p.0; is = p.1; sum = refl }, omega (arith, grows (drop (i + 1) word) _ n p.2))
