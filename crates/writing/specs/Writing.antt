-- The bytes that list a certificate: its stamps by their numbers, and then what each is allowed on each.
use Rattle.std.specs.Prelude.{◌≡◌, ℕ, zero, suc, ◌<◌, ◌≤◌, ◌/◌, ◌%◌, true, cond, ◌⊎◌, List, [], ◌∷◌, ◌++◌, length, drop, map, Some, nat_lt}
use Rattle.std.specs.List.{flat_map}
use Rattle.model.specs.declared.counts.Counts.{Counts}
use Rattle.model.specs.declared.stamp.Stamp.{Stamp}
use Rattle.model.specs.Answers.{accepted}
use Rattle.model.specs.Counts.{in_scales}
use Rattle.model.specs.Kinds.{kind_number}
use Rattle.model.specs.Stamps.{attribute_of}
use Rattle.certificates.specs.Certificates.{Certificate, lists, between, stamp_at}
use Rattle.certificates.specs.Encoding.{code}
use Rattle.certificates.specs.Items.{Item, stamp, allow}
use Rattle.certificates.specs.Reading.{CertificateRead}

-- what lists a stamp
abbrev pub stamp_item : Stamp → Item
stamp_item s = stamp (kind_number s.kind) (attribute_of s 0) (attribute_of s 1) (attribute_of s 2) (attribute_of s 3)

-- A(u, v), by the numbers of the two stamps
abbrev pub allowed_by : Certificate → (u v : ℕ) → ℕ
allowed_by c u v = between c (stamp_at c (Some u)) (stamp_at c (Some v))

-- what says that it is this mask; nothing is said where it is empty
abbrev pub mask_items : (u v mask : ℕ) → List Item
mask_items u v mask = cond (nat_lt 0 mask) (allow u v (mask / 256) (mask % 256) ∷ []) []

-- these of each number below n, one after the other
unfoldable pub items_below : (ℕ → List Item) → (n : ℕ) → List Item
items_below items zero = []
items_below items (suc n) = items_below items n ++ items n

-- what the stamp with number u is allowed on that with number v
abbrev pub cell_items : Certificate → (u v : ℕ) → List Item
cell_items c u v = mask_items u v (allowed_by c u v)

-- what it is allowed on each
abbrev pub row_items : Certificate → (u : ℕ) → List Item
row_items c u = items_below (cell_items c u) (length c.stamps)

abbrev pub items_of : Certificate → List Item
items_of c = map stamp_item c.stamps ++ items_below (row_items c) (length c.stamps)

abbrev pub written : Certificate → List ℕ
written c = flat_map code (items_of c)

-- Each stamp that is listed has null or a value of the scale as each attribute: a lawful tape can list it.
abbrev pub InScales : Counts → Certificate → Type 0
InScales counts c = (s : Stamp) → lists c s ≡ true → in_scales counts s ≡ true

-- The room that the most masks of one stamp take: 32 pairs of 5 bytes.
abbrev pub full_row : ℕ
full_row = 160

-- that of 32 stamps
abbrev pub full_masks : ℕ
full_masks = 5120

-- The room that the largest certificate takes: these, and 32 stamps of 6 bytes.
abbrev pub full_size : ℕ
full_size = 5312

-- The buffer has less room than the largest certificate takes, or no lawful tape lists this one.
abbrev pub Unwritable : Counts → Certificate → (buffer : List ℕ) → Type 0
Unwritable counts c buffer = (length buffer < full_size) ⊎ (InScales counts c → ⊥)

-- The first n bytes are those that list the certificate, and the rest of the buffer is as it was. To read them gives the certificate
-- back.
pub record WrittenInto (counts : Counts) (c : Certificate) (before : List ℕ) (n : ℕ) (after : List ℕ) : Type 0 where
  pub size : full_size ≤ length before
  pub scaled : InScales counts c
  pub long : n ≡ length (written c)
  pub bytes : after ≡ written c ++ drop n before
  pub back : CertificateRead counts (written c) (accepted c)
