-- Stamps and their numbers.
use Rattle.std.proofs.Common.{◌≡◌, ℕ, zero, suc, ◌<◌, ◌≤◌, ◌⊎◌, true, not, ◌&&◌, ◌||◌, List, [], ◌∷◌, length, slice_get, unwrap_or, Some, None, Option, inl, inr, refl, sym, ap, ◌∙◌, ⊎_elim, arith}
use Rattle.std.proofs.lemmas.Option.{slice_get_past, slice_get_within}
use mathlib.Core.Path.{fun_ext}
use Rattle.model.specs.declared.stamp.Stamp.{Stamp}
use Rattle.model.specs.Kinds.{subject_kind}
use Rattle.model.specs.Masks.{has}
use Rattle.scheme.specs.Commands.{Command}
use Rattle.protection.specs.declared.excerpt.Excerpt.{Excerpt}
use Rattle.protection.specs.Tables.{protection_of}
use Rattle.protection.proofs.Tables.{kept_whole, entries_with, table_with}
use Rattle.certificates.specs.Certificates.{Certificate, number_of, lists, between, stamp_at}
use Rattle.certificates.proofs.Listed.{listed_there, there_listed}
use Rattle.certificates.proofs.Stamps.{found_there}
use Rattle.castings.specs.Castings.{Casting, is_cast, suits, cast_state}
use Rattle.castings.specs.Numbers.{stamps_by}

-- the stamp of a number is listed
pub listed_by : (c : Certificate) (number : Option ℕ) (s : Stamp) → stamp_at c number ≡ Some s → lists c s ≡ true
listed_by c None s here = cc
listed_by c (Some n) s here = listed_there c n s here

-- and the number of a stamp is where it is
pub numbered : (c : Certificate) (s : Stamp) (n : ℕ) → number_of c s ≡ Some n → stamp_at c (Some n) ≡ Some s
numbered c s n found = found_there c.stamps s n found

-- each listed stamp has one
pub listed_at : (c : Certificate) (s : Stamp) → lists c s ≡ true → (n : ℕ) × (n < length c.stamps) × (slice_get c.stamps n ≡ Some s)
listed_at c s listed =
    let there = there_listed c s listed in
    (there.0, slice_get_within c.stamps there.0 s there.1, there.1)

pub suits_listed : (c : Certificate) (m : Command) (i : ℕ) (number : Option ℕ) (s : Stamp) → stamp_at c number ≡ Some s → suits c m i (stamp_at c number) ≡ (is_cast m i && (not (has m.cards i) || subject_kind s.kind))
suits_listed c m i number s here =
    ap (suits c m i) here
    ∙ ap (λ b. is_cast m i && (b && (not (has m.cards i) || subject_kind s.kind))) (listed_by c number s here)

-- past the parameters there is nothing
pub beyond_numbers : (c : Certificate) (numbers : List (Option ℕ)) (i : ℕ) → length numbers ≡ 3 → 3 ≤ i → stamps_by c numbers i ≡ None
beyond_numbers c numbers i long past =
    ap (λ n. stamp_at c (unwrap_or n None)) (slice_get_past numbers i (rw long past))

pub beyond_entries : (e : Excerpt) (i : ℕ) → length e.entries ≡ 3 → 3 ≤ i → (protection_of e).entry i ≡ None
beyond_entries e i long past = ap (λ o. unwrap_or o None) (slice_get_past e.entries i (rw long past))

none_between : (c : Certificate) (row column : Option Stamp) → (row ≡ None) ⊎ (column ≡ None) → between c row column ≡ 0
none_between c None column h = refl
none_between c (Some u) None h = refl
none_between c (Some u) (Some v) h = ⊎_elim (λ (none : Some u ≡ None). cc) (λ (none : Some v ≡ None). cc) h

-- what the parameters of a casting see, kept in three entries and three by three cells
pub cast_whole : (c : Certificate) (σ : Casting) → ((i : ℕ) → 3 ≤ i → σ i ≡ None) → (entries : List (Option Stamp)) (table : List (List ℕ)) → entries ≡ entries_with σ → table ≡ table_with (cast_state c σ).cells → protection_of (record { entries = entries; cells = table }) ≡ cast_state c σ
cast_whole c σ none entries table here there =
    kept_whole (cast_state c σ) none (λ i j out. none_between c (σ i) (σ j) (by i j out)) entries table here there
  where
    by : (i j : ℕ) → (3 ≤ i) ⊎ (3 ≤ j) → (σ i ≡ None) ⊎ (σ j ≡ None)
    by i j out = ⊎_elim (λ (row : 3 ≤ i). inl (none i row)) (λ (column : 3 ≤ j). inr (none j column)) out

-- the same of a casting by the numbers of its stamps
pub seen_whole : (c : Certificate) (numbers : List (Option ℕ)) → length numbers ≡ 3 → (entries : List (Option Stamp)) (table : List (List ℕ)) → entries ≡ entries_with (stamps_by c numbers) → table ≡ table_with (cast_state c (stamps_by c numbers)).cells → protection_of (record { entries = entries; cells = table }) ≡ cast_state c (stamps_by c numbers)
seen_whole c numbers long = cast_whole c (stamps_by c numbers) (λ i past. beyond_numbers c numbers i long past)

-- three numbers by their stamps
pub three_stamps : (c : Certificate) (e : Excerpt) → length e.entries ≡ 3 → (x y z : Option ℕ) → stamp_at c x ≡ (protection_of e).entry 0 → stamp_at c y ≡ (protection_of e).entry 1 → stamp_at c z ≡ (protection_of e).entry 2 → stamps_by c (x ∷ y ∷ z ∷ []) ≡ (protection_of e).entry
three_stamps c e long x y z hx hy hz = fun_ext by
  where
    by : (i : ℕ) → stamps_by c (x ∷ y ∷ z ∷ []) i ≡ (protection_of e).entry i
    by zero = hx
    by (suc zero) = hy
    by (suc (suc zero)) = hz
    by (suc (suc (suc i))) = sym (beyond_entries e (suc (suc (suc i))) long (omega arith))
