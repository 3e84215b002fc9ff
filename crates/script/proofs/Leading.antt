-- The numbers at the front of a text, one after the other, and that they are read in one way.
use Rattle.std.proofs.Common.{◌≡◌, ℕ, Bor, Option, Some, None, ◌≤◌, ◌⊎◌, List, [], ◌∷◌, ◌++◌, length, sym, refl, ap, subst, inr, ⊎_elim, append_assoc, append-nil, length-append, arith}
use Rattle.std.specs.Option.{option_map}
use Rattle.script.specs.Words.{Blanks, Begins}
use Rattle.script.specs.Finds.{Finds}
use Rattle.script.specs.Numbers.{Number, Leads}
use Rattle.script.specs.Series.{Series, ended, next, Starts}
use Rattle.script.proofs.Parting.{blanks_past, begun_by, one_beginning}
use Rattle.script.proofs.Numbering.{one_number}

-- the number stands where the first word does
pub number_at : {text word rest rest' : List ℕ} {n : ℕ} → Begins text word rest → Leads text n rest' → Number word n × (n ≤ 255)
number_at {n = n} b l = (subst (λ w. Number w n) (one_beginning l.begun b).0 l.number, l.within)

-- two readings of a first number give one number and one text after it
pub one_leading : {text rest rest' : List ℕ} {m n : ℕ} → Leads text m rest → Leads text n rest' → (m ≡ n) × (rest ≡ rest')
one_leading a b = (one_number a.number (number_at a.begun b).0, (one_beginning a.begun b.begun).1)

-- what a reader of a first number answers
abbrev pub led : ℕ × Bor (List ℕ) → ℕ × List ℕ
led p = (p.0, p.1.now)

abbrev pub FindsFirst : List ℕ → Option (ℕ × Bor (List ℕ)) → Type 0
FindsFirst text o = Finds (λ (p : ℕ × List ℕ). Leads text p.0 p.1) (option_map led o)

pub first_at : {text : List ℕ} {o : Option (ℕ × Bor (List ℕ))} {n : ℕ} {rest : Bor (List ℕ)} → o ≡ Some (n, rest) → FindsFirst text o → Leads text n rest.now
first_at {text} is found = subst (FindsFirst text) is found

pub no_first : {text : List ℕ} {o : Option (ℕ × Bor (List ℕ))} → o ≡ None → FindsFirst text o → (n : ℕ) (rest : List ℕ) → Leads text n rest → ⊥
no_first {text} is found n rest l = subst (FindsFirst text) is found (n, rest) l

-- a text of blanks begins with no number
not_blank : {text rest : List ℕ} {n : ℕ} → Blanks text → Leads text n rest → ⊥
not_blank {text} {rest} bs l =
    omega (arith, l.begun.solid.0, ap length (sym (blanks_past text bs)), ap length (begun_by text l.word rest l.begun), length-append l.word rest)

-- a series read backward
abbrev pub Parted : List ℕ → List ℕ → Type 0
Parted text [] = Blanks text
Parted text (n ∷ numbers) = (rest : List ℕ) × Leads text n rest × Series rest numbers

pub parted : {text numbers : List ℕ} → Series text numbers → Parted text numbers
parted (ended bs) = bs
parted (next {text} {rest} l s) = (rest, l, s)

-- where a number is taken off the front, a series goes on with the rest
pub following : {text rest numbers : List ℕ} {m n : ℕ} → Leads text m rest → Series text (n ∷ numbers) → (m ≡ n) × Series rest numbers
following {numbers = numbers} l s =
    let p = parted s in
    let same = one_leading l p.1 in
    (same.0, subst (λ t. Series t numbers) (sym same.1) p.2)

pub one_series : {text xs : List ℕ} → Series text xs → (ys : List ℕ) → Series text ys → xs ≡ ys
one_series (ended bs) [] t = refl
one_series (ended bs) (y ∷ ys) t = absurd (not_blank bs (parted t).1)
one_series (next l s) [] t = absurd (not_blank (parted t) l)
one_series (next l s) (y ∷ ys) t =
    let step = following l t in
    let first = step.0 in
    let others = one_series s ys step.1 in
    cc

-- These numbers were taken off the front of the text, and the rest is still to be read.
pub record Taken (text numbers rest : List ℕ) : Type 0 where
  pub whole : (more : List ℕ) → Series rest more → Series text (numbers ++ more)
  pub left : (all : List ℕ) → Series text all → (more : List ℕ) × Series rest more
  -- no number was taken, or there was one
  pub start : (rest ≡ text) ⊎ Starts text

starts : {text numbers rest after : List ℕ} {n : ℕ} → Taken text numbers rest → Leads rest n after → Starts text
starts {after = after} {n} h l =
    ⊎_elim (λ same. subst Starts same record { first = n; rest = after; leads = l }) (λ seen. seen) h.start

-- what a series has left when a first number was taken off
after_number : {rest after : List ℕ} {n : ℕ} → Leads rest n after → (more : List ℕ) → Series rest more → (others : List ℕ) × Series after others
after_number l [] s = absurd (not_blank (parted s) l)
after_number l (m ∷ more) s = (more, (following l s).1)

pub one_taken : {text numbers rest after : List ℕ} {n : ℕ} → Taken text numbers rest → Leads rest n after → Taken text (numbers ++ n ∷ []) after
one_taken {text} {numbers} {rest} {after} {n} h l = record {
  whole = λ more s. subst (Series text) (sym (append_assoc numbers (n ∷ []) more)) (h.whole (n ∷ more) (next l s));
  left = λ all s. let p = h.left all s in after_number l p.0 p.1;
  start = inr (starts h l);
}

pub all_taken : {text numbers rest : List ℕ} → Taken text numbers rest → Blanks rest → Series text numbers
all_taken {text} {numbers} h bs = subst (Series text) (append-nil numbers) (h.whole [] (ended bs))

-- a text that is not blank and begins with no number is no series
no_number : {rest : List ℕ} → (Blanks rest → ⊥) → ((n : ℕ) (after : List ℕ) → Leads rest n after → ⊥) → (more : List ℕ) → Series rest more → ⊥
no_number some none [] s = some (parted s)
no_number some none (n ∷ more) s = let p = parted s in none n p.0 p.1

pub no_series : {text numbers rest : List ℕ} → Taken text numbers rest → (Blanks rest → ⊥) → ((n : ℕ) (after : List ℕ) → Leads rest n after → ⊥) → (all : List ℕ) → Series text all → ⊥
no_series h some none all s = let p = h.left all s in no_number some none p.0 p.1
