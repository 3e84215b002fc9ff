-- What a certificate tape says, item by item, and the certificate that it makes.
use Rattle.std.specs.Prelude.{ℕ, ◌+◌, ◌*◌, cond, List, Option, ◌==◌, fold, bit_or}
use Rattle.model.specs.declared.kind.Kind.{Kind}
use Rattle.model.specs.declared.kind.Kind.TheVariants.{Subject, Object}
use Rattle.model.specs.declared.stamp.Stamp.{Stamp}
use Rattle.model.specs.Stamps.{stamp_of}
use Rattle.certificates.specs.Certificates.{Certificate, no_stamps, with_stamp, with_mask}

-- a stamp of the kind with this number and attributes 0 to 3; what the stamp with number u is allowed on that with number v,
-- as the two bytes of a mask
pub data Item : Type 0 where
  stamp : (kind : ℕ) → (a b c d : Option ℕ) → Item
  allow : (u v high low : ℕ) → Item

-- the kind of a number; one that is no kind's is refused, whatever it is taken for
abbrev pub kind_of : (number : ℕ) → Kind
kind_of number = cond (number == 1) Subject Object

abbrev pub stamp_by : (kind : ℕ) → (a b c d : Option ℕ) → Stamp
stamp_by kind a b c d = stamp_of (kind_of kind) a b c d

-- the mask of two bytes
abbrev pub mask_of : (high low : ℕ) → ℕ
mask_of high low = 256 * high + low

-- The certificate with one item more. What is allowed of two stamps adds up.
abbrev pub with_item : Certificate → Item → Certificate
with_item c (stamp kind a b x d) = with_stamp c (stamp_by kind a b x d)
with_item c (allow u v high low) = with_mask c u v (bit_or (c.masks u v) (mask_of high low))

-- what items list, one after the other; Listing says it of all at once
abbrev pub listed_by : List Item → Certificate
listed_by items = fold with_item no_stamps items
