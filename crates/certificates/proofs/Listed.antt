-- The listed stamps one after the other, as a loop over them comes to them.
use Rattle.std.proofs.Common.{◌≡◌, ℕ, true, ◌<◌, ◌≤◌, is_some, List, length, get_or, slice_get, Some, None, Option, refl, sym, ap, ◌∙◌}
use Rattle.std.specs.List.{position}
use Rattle.std.proofs.lemmas.Bool.{and_parts, and_from, both_ways}
use Rattle.std.proofs.lemmas.Option.{slice_get-get_or}
use Rattle.model.specs.declared.stamp.Stamp.{Stamp}
use Rattle.model.specs.Masks.{has}
use Rattle.model.specs.Stamps.{same_stamp}
use Rattle.certificates.specs.declared.ban.Ban.{Ban}
use Rattle.certificates.specs.Bans.{fits, met_by, UnmetOn, MetBy, Meets}
use Rattle.certificates.specs.Certificates.{Certificate, lists, allows}
use Rattle.certificates.proofs.Each.{EachBelow, each_there}
use Rattle.certificates.proofs.Stamps.{not_there, found_there}

-- a stamp is listed when it is there, and only then
pub listed_there : (c : Certificate) (n : ℕ) (s : Stamp) → slice_get c.stamps n ≡ Some s → lists c s ≡ true
listed_there c n s there = by (position (λ t. same_stamp t s) c.stamps) refl
  where
    by : (o : Option ℕ) → position (λ t. same_stamp t s) c.stamps ≡ o → is_some o ≡ true
    by None none = absurd (not_there c.stamps s n none there)
    by (Some m) found = refl

pub there_listed : (c : Certificate) (s : Stamp) → lists c s ≡ true → (n : ℕ) × (slice_get c.stamps n ≡ Some s)
there_listed c s listed = by (position (λ t. same_stamp t s) c.stamps) refl listed
  where
    by : (o : Option ℕ) → position (λ t. same_stamp t s) c.stamps ≡ o → is_some o ≡ true → (n : ℕ) × (slice_get c.stamps n ≡ Some s)
    by None none is = cc
    by (Some m) found is = (m, found_there c.stamps s m found)

-- the stamp at a number, as a loop reads it
pub listed_at : (c : Certificate) (items : List Stamp) (n : ℕ) (d : Stamp) → items ≡ c.stamps → n < length items → lists c (get_or items n d) ≡ true
listed_at c items n d same low = listed_there c n (get_or items n d) (ap (λ xs. slice_get xs n) (sym same) ∙ slice_get-get_or items n d low)

-- what is so of each stamp that is there is so of each that is listed
pub each_listed : (P : Stamp → Type 0) (c : Certificate) (stamps : List Stamp) (k : ℕ) → stamps ≡ c.stamps → length stamps ≤ k → EachBelow P stamps k → (s : Stamp) → lists c s ≡ true → P s
each_listed P c stamps k same all each s listed =
    let there = there_listed c s listed in
    each_there P stamps k all each there.0 s (ap (λ xs. slice_get xs there.0) same ∙ there.1)

-- two stamps that meet a ban, and what shows that none do
pub met : (c : Certificate) (ban : Ban) (u v : Stamp) → lists c u ≡ true → lists c v ≡ true → met_by c ban u v ≡ true → MetBy c ban u v
met c ban u v row column is =
    let parts = and_parts (fits ban u v) (has (allows c u v) ban.right) is in
    record { row = row; column = column; fit = parts.0; held = parts.1 }

pub unmet : (c : Certificate) (ban : Ban) → ((u : Stamp) → lists c u ≡ true → UnmetOn c ban u) → Meets c ban → ⊥
unmet c ban none meets =
    let by = meets.2 in
    both_ways (met_by c ban meets.0 meets.1) (none meets.0 by.row meets.1 by.column) (and_from (fits ban meets.0 meets.1) (has (allows c meets.0 meets.1) ban.right) by.fit by.held)
