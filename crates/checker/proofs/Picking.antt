-- Tests that compute, of three numbers and of all listed stamps.
use Rattle.std.proofs.Common.{◌≡◌, ℕ, zero, suc, ◌<◌, Bool, true, false, cond, ◌&&◌, eqb, List, [], ◌∷◌, filter, Some, None, Option, slice_get, unwrap_or, sym, ap, refl, subst, ◌∙◌, arith}
use Rattle.std.specs.List.{list_all}
use Rattle.std.proofs.lemmas.Bool.{and_parts, both_ways, eqb-true}
use Rattle.std.proofs.lemmas.Option.{none-some}
use Rattle.std.specs.Int.Bits.{bit_and}
use Rattle.model.specs.declared.stamp.Stamp.{Stamp}
use Rattle.model.specs.Masks.{Within}
use Rattle.model.proofs.Containing.{within_from_and}
use Rattle.certificates.specs.Certificates.{Certificate, lists}
use Rattle.certificates.proofs.Listed.{there_listed}

abbrev pub of_three : (ℕ → Bool) → Bool
of_three f = f 0 && (f 1 && f 2)

pub three_at : (f : ℕ → Bool) → of_three f ≡ true → (i : ℕ) → i < 3 → f i ≡ true
three_at f h zero lt = (and_parts (f 0) (f 1 && f 2) h).0
three_at f h (suc zero) lt = (and_parts (f 1) (f 2) (and_parts (f 0) (f 1 && f 2) h).1).0
three_at f h (suc (suc zero)) lt = (and_parts (f 1) (f 2) (and_parts (f 0) (f 1 && f 2) h).1).1
three_at f h (suc (suc (suc i))) lt = absurd (omega arith)

-- what passes one test, in a list all of whose elements that pass it pass another
pub picked : {X : Type 0} (f g : X → Bool) (xs : List X) (n : ℕ) (x : X) → slice_get xs n ≡ Some x → g x ≡ true → list_all f (filter g xs) ≡ true → f x ≡ true
picked f g [] n x at is all = absurd (none-some x at)
picked f g (y ∷ ys) n x at is all = by (g y) refl n at all (λ k there rest. picked f g ys k x there is rest)
  where
    by : (b : Bool) → g y ≡ b → (n : ℕ) → slice_get (y ∷ ys) n ≡ Some x → list_all f (cond b (y ∷ filter g ys) (filter g ys)) ≡ true → ((k : ℕ) → slice_get ys k ≡ Some x → list_all f (filter g ys) ≡ true → f x ≡ true) → f x ≡ true
    by true passing zero here all more =
        let same : y ≡ x = ap (λ o. unwrap_or o x) here in
        ap f (sym same) ∙ (and_parts (f y) (list_all f (filter g ys)) all).0
    by true passing (suc k) there all more = more k there (and_parts (f y) (list_all f (filter g ys)) all).1
    by false fails zero here all more =
        let same : y ≡ x = ap (λ o. unwrap_or o x) here in
        absurd (both_ways (g y) fails (ap g same ∙ is))
    by false fails (suc k) there all more = more k there all

module _ (c : Certificate) where
  pub of_listed : (f : Stamp → Bool) (s : Stamp) → list_all f (filter (λ t. true) c.stamps) ≡ true → lists c s ≡ true → f s ≡ true
  of_listed f s all h = let at = there_listed c s h in picked f (λ t. true) c.stamps at.0 s at.1 refl all

-- every listed stamp passes
abbrev pub all_listed : Certificate → (Stamp → Bool) → Bool
all_listed c f = list_all f (filter (λ t. true) c.stamps)

abbrev pub within : (m n : ℕ) → Bool
within m n = eqb (bit_and m n) m

pub within_so : (m n : ℕ) → within m n ≡ true → Within m n
within_so m n h = within_from_and m n (eqb-true (bit_and m n) m h)

abbrev pub stamp_kept : Certificate → Option Stamp → Bool
stamp_kept c None = true
stamp_kept c (Some s) = lists c s

pub stamp_so : (c : Certificate) (e : Option Stamp) (s : Stamp) → stamp_kept c e ≡ true → e ≡ Some s → lists c s ≡ true
stamp_so c e s h is = subst (λ o. stamp_kept c o ≡ true) is h
