-- What a text spells, worked out from its front, and that this is what `Spells` says.
use Rattle.std.proofs.Common.{◌≡◌, ℕ, ◌+◌, ◌*◌, ◌<◌, true, false, not, cond, ◌⊎◌, List, [], ◌∷◌, ◌++◌, length, drop, is_some, Some, None, Option, sym, refl, ap, ◌∙◌, subst, inl, inr, ⊎_elim, append_assoc, append-nil, arith}
use Rattle.std.specs.Option.{option_map}
use Rattle.std.specs.List.{position_or_len}
use Rattle.std.proofs.lemmas.List.{drop-drop}
use Rattle.std.proofs.lemmas.Bool.Decides.{nat_tests}
use Rattle.std.proofs.lemmas.Bool.{cond-true, cond-false, cond_both, cases_Bool, not-true, not-false}
use Rattle.script.specs.Words.{blank, past_blanks}
use Rattle.script.specs.Hex.{digit_value, both_digits, byte_value, leading_pair, Spells, no_more, after_blank, pair, OneSpelling, Opens}
use Rattle.script.proofs.Parting.{solid, Fresh, past_fresh}

-- one byte in front of the others
abbrev then : Option ℕ → Option (List ℕ) → Option (List ℕ)
then None bs = None
then (Some b) None = None
then (Some b) (Some bs) = Some (b ∷ bs)

abbrev pub spelt : List ℕ → Option (List ℕ)
spelt [] = Some []
spelt (b ∷ []) = cond (blank b) (Some []) None
spelt (a ∷ b ∷ text) = cond (blank a) (spelt (b ∷ text)) (then (byte_value a b) (spelt text))

-- a digit is no blank
solid_digit : (b v : ℕ) → digit_value b ≡ Some v → blank b ≡ false
solid_digit b v is = grind (arith, nat_tests)

spelt_blank : (b : ℕ) (text : List ℕ) → blank b ≡ true → spelt (b ∷ text) ≡ spelt text
spelt_blank b [] is = cond-true _ _ _ is
spelt_blank b (x ∷ text) is = cond-true _ _ _ is

-- blanks in front do not matter
pub spelt_past : (text : List ℕ) → spelt (past_blanks text) ≡ spelt text
spelt_past [] = refl
spelt_past (b ∷ text) =
    cond_both (not (solid b)) (1 + position_or_len solid text) 0 (λ n. spelt (drop n (b ∷ text)) ≡ spelt (b ∷ text))
    (λ is. ap spelt (sym (drop-drop (position_or_len solid text) 1 (b ∷ text))) ∙ spelt_past text ∙ sym (spelt_blank b text (not-false _ (not-true _ is))))
    (λ _. refl)

pub complete : {text bytes : List ℕ} → Spells text bytes → spelt text ≡ Some bytes
complete no_more = refl
complete (after_blank {b} {text} is s) = spelt_blank b text is ∙ complete s
complete (pair {a} {b} {high} {low} {text} h l s) =
    cond-false _ _ _ (solid_digit a high h)
    ∙ ap (λ x. then (both_digits x (digit_value b)) (spelt text)) h
    ∙ ap (λ x. then (both_digits (Some high) x) (spelt text)) l
    ∙ ap (then (Some (16 * high + low))) (complete s)

-- where a pair and what follows it spell something, each has its part in it
record Parts (x y : Option ℕ) (o : Option (List ℕ)) (bytes : List ℕ) : Type 0 where
  high : ℕ
  low : ℕ
  others : List ℕ
  high_is : x ≡ Some high
  low_is : y ≡ Some low
  others_are : o ≡ Some others
  all : (16 * high + low) ∷ others ≡ bytes

parts : (x y : Option ℕ) (o : Option (List ℕ)) (bytes : List ℕ) → then (both_digits x y) o ≡ Some bytes → Parts x y o bytes
parts None y o bytes e = absurd (grind arith)
parts (Some h) None o bytes e = absurd (grind arith)
parts (Some h) (Some l) None bytes e = absurd (grind arith)
parts (Some h) (Some l) (Some bs) bytes e =
    record { high = h; low = l; others = bs; high_is = refl; low_is = refl; others_are = refl; all = cc }

pub sound : (text bytes : List ℕ) → spelt text ≡ Some bytes → Spells text bytes
sound [] bytes e = let same : [] ≡ bytes = cc in subst (Spells []) same no_more
sound (b ∷ []) bytes e =
    ⊎_elim
    (λ is. after_blank is (sound [] bytes (sym (spelt_blank b [] is) ∙ e)))
    (λ is. let none : spelt (b ∷ []) ≡ None = cond-false _ _ _ is in absurd (grind arith))
    (cases_Bool (blank b))
sound (a ∷ b ∷ text) bytes e =
    ⊎_elim
    (λ is. after_blank is (sound (b ∷ text) bytes (sym (spelt_blank a (b ∷ text) is) ∙ e)))
    (λ is.
    let p = parts (digit_value a) (digit_value b) (spelt text) bytes (sym (cond-false (blank a) _ _ is) ∙ e) in
    subst (Spells (a ∷ b ∷ text)) p.all (pair p.high_is p.low_is (sound text p.others p.others_are)))
    (cases_Bool (blank a))

pub one_spelling : OneSpelling
one_spelling text xs ys s t = let p = complete s in let q = complete t in cc

-- a value before a text
abbrev before : List ℕ → ℕ → ℕ × List ℕ
before text value = (value, text)

-- the two digits of a byte
pub digits_of : (x y : Option ℕ) (value : ℕ) → both_digits x y ≡ Some value → (p : ℕ) × (q : ℕ) × (x ≡ Some p) × (y ≡ Some q) × (value ≡ 16 * p + q)
digits_of None y value e = absurd (grind arith)
digits_of (Some p) None value e = absurd (grind arith)
digits_of (Some p) (Some q) value e = (p, q, refl, refl, cc)

pair_front : (o : Option ℕ) (text : List ℕ) (value : ℕ) (rest : List ℕ) → option_map (before text) o ≡ Some (value, rest) → (o ≡ Some value) × (text ≡ rest)
pair_front None text value rest e = absurd (grind arith)
pair_front (Some v) text value rest e =
    let same : before text v ≡ (value, rest) = cc in (ap (λ p. Some p.0) same, ap (λ p. p.1) same)

no_pair : (o : Option ℕ) (text : List ℕ) → option_map (before text) o ≡ None → o ≡ None
no_pair None text e = refl
no_pair (Some v) text e = absurd (grind arith)

-- what a text spells that begins with a pair
pub spelt_pair : (text : List ℕ) (value : ℕ) (rest : List ℕ) → leading_pair text ≡ Some (value, rest) → spelt text ≡ then (Some value) (spelt rest)
spelt_pair [] value rest e = absurd (grind arith)
spelt_pair (a ∷ []) value rest e = absurd (grind arith)
spelt_pair (a ∷ b ∷ text) value rest e =
    let p = pair_front (byte_value a b) text value rest e in
    let d = digits_of (digit_value a) (digit_value b) value p.0 in
    cond-false _ _ _ (solid_digit a d.0 d.2) ∙ ap (λ o. then o (spelt text)) p.0 ∙ ap (λ t. then (Some value) (spelt t)) p.1

-- a text that begins with neither a blank nor a pair spells nothing
pub spelt_none : (text : List ℕ) → 0 < length text → Fresh text → leading_pair text ≡ None → spelt text ≡ None
spelt_none [] some is e = absurd (omega arith)
spelt_none (a ∷ []) some is e = cond-false _ _ _ (not-true _ is)
spelt_none (a ∷ b ∷ text) some is e =
    cond-false _ _ _ (not-true _ is) ∙ ap (λ o. then o (spelt text)) (no_pair (byte_value a b) text e)

-- The text spells these bytes, and then what the rest of it spells.
pub record Sofar (text bytes rest : List ℕ) : Type 0 where
  pub split : spelt text ≡ option_map (λ bs. bytes ++ bs) (spelt rest)
  pub fresh : Fresh rest
  -- no pair was passed, or there was one
  pub start : (rest ≡ past_blanks text) ⊎ Opens text

pub opens : (text bytes rest : List ℕ) (value : ℕ) (after : List ℕ) → Sofar text bytes rest → leading_pair rest ≡ Some (value, after) → Opens text
opens text bytes rest value after h e = ⊎_elim (λ same. ap (λ t. is_some (leading_pair t)) (sym same) ∙ ap is_some e) (λ seen. seen) h.start

kept : (o : Option (List ℕ)) → o ≡ option_map (λ bs. [] ++ bs) o
kept None = refl
kept (Some bs) = refl

pub begun : (text : List ℕ) → Sofar text [] (past_blanks text)
begun text = record { split = sym (spelt_past text) ∙ kept _; fresh = past_fresh text; start = inl refl }

moved : (bytes : List ℕ) (value : ℕ) (o : Option (List ℕ)) → option_map (λ bs. bytes ++ bs) (then (Some value) o) ≡ option_map (λ bs. (bytes ++ value ∷ []) ++ bs) o
moved bytes value None = refl
moved bytes value (Some bs) = ap Some (sym (append_assoc bytes (value ∷ []) bs))

pub one_more : (text bytes rest : List ℕ) (value : ℕ) (after : List ℕ) → Sofar text bytes rest → leading_pair rest ≡ Some (value, after) → Sofar text (bytes ++ value ∷ []) (past_blanks after)
one_more text bytes rest value after h e = record {
  split =
      h.split
      ∙ ap (option_map (λ bs. bytes ++ bs)) (spelt_pair rest value after e ∙ ap (then (Some value)) (sym (spelt_past after)))
      ∙ moved bytes value (spelt (past_blanks after));
  fresh = past_fresh after;
  start = inr (opens text bytes rest value after h e);
}

pub done : (text bytes rest : List ℕ) → Sofar text bytes rest → length rest ≡ 0 → Spells text bytes
done text bytes [] h e = sound text bytes (h.split ∙ ap Some (append-nil bytes))
done text bytes (b ∷ rest) h e = absurd (omega arith)

pub stuck : (text bytes rest : List ℕ) → Sofar text bytes rest → 0 < length rest → leading_pair rest ≡ None → (bs : List ℕ) → Spells text bs → ⊥
stuck text bytes rest h some e bs s =
    let none = h.split ∙ ap (option_map (λ xs. bytes ++ xs)) (spelt_none rest some h.fresh e) in
    let p = complete s in
    grind arith
