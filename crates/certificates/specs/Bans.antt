-- A ban names a right that no card of one sort may ever hold on an entry of another sort.
use Rattle.std.specs.Prelude.{◌≡◌, Bool, true, false, ◌&&◌}
use Rattle.model.specs.declared.stamp.Stamp.{Stamp}
use Rattle.model.specs.Kinds.{subject_kind}
use Rattle.model.specs.Masks.{has}
use Rattle.model.specs.Stamps.{attribute_of, same_value}
use Rattle.certificates.specs.declared.ban.Ban.{Ban}
use Rattle.certificates.specs.declared.ban.Sort.{Sort}
use Rattle.certificates.specs.Certificates.{Certificate, lists, allows}

-- the stamp has this value as this attribute; null is had where the attribute is null
abbrev pub is_of : Sort → Stamp → Bool
is_of sort s = same_value (attribute_of s sort.attribute) sort.value

-- Two stamps fit a ban when the first is a card's, of the sort of its row, and the second is of the sort of its column.
abbrev pub fits : Ban → (u v : Stamp) → Bool
fits ban u v = subject_kind u.kind && (is_of ban.row u && is_of ban.column v)

-- they fit it, and the right is allowed
abbrev pub met_by : Certificate → Ban → (u v : Stamp) → Bool
met_by c ban u v = fits ban u v && has (allows c u v) ban.right

-- no listed stamp, as the column, meets it with this row
abbrev pub UnmetOn : Certificate → Ban → (u : Stamp) → Type 0
UnmetOn c ban u = (v : Stamp) → lists c v ≡ true → met_by c ban u v ≡ false

-- A certificate meets a ban by two stamps that it lists, which may be the same one: they fit it, and the right is allowed.
pub record MetBy (c : Certificate) (ban : Ban) (u v : Stamp) : Type 0 where
  pub row : lists c u ≡ true
  pub column : lists c v ≡ true
  pub fit : fits ban u v ≡ true
  pub held : has (allows c u v) ban.right ≡ true

abbrev pub Meets : Certificate → Ban → Type 0
Meets c ban = (u : Stamp) × (v : Stamp) × MetBy c ban u v
