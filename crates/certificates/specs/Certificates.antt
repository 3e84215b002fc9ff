-- A certificate says which sort of card may ever hold which right on which sort of entry.
use Rattle.std.specs.Prelude.{◌≡◌, ℕ, Bool, false, ◌&&◌, cond, List, [], ◌∷◌, ◌++◌, length, Some, None, Option, is_some, nat_lt, slice_get}
use Rattle.std.specs.List.{position}
use Rattle.model.specs.declared.stamp.Stamp.{Stamp}
use Rattle.model.specs.Kinds.{subject_kind}
use Rattle.model.specs.Stamps.{same_stamp, is_subject}
use Rattle.stores.specs.Matrices.{Matrix, blank, written}

-- the stamps that are listed, by their numbers, and what each is allowed on each, by two numbers
pub record Certificate : Type 0 where
  pub stamps : List Stamp
  pub masks : Matrix

-- no stamp is listed, and nothing is allowed
abbrev pub no_stamps : Certificate
no_stamps = record { stamps = []; masks = blank }

-- one stamp more, with the next number; nothing more is allowed
abbrev pub with_stamp : Certificate → Stamp → Certificate
with_stamp c s = record { stamps = c.stamps ++ s ∷ []; masks = c.masks }

-- another mask for two numbers
abbrev pub with_mask : Certificate → (u v mask : ℕ) → Certificate
with_mask c u v mask = record { stamps = c.stamps; masks = written c.masks u v mask }

-- the number of a stamp, if it is listed
abbrev pub number_of : Certificate → Stamp → Option ℕ
number_of c s = position (λ t. same_stamp t s) c.stamps

abbrev pub lists : Certificate → Stamp → Bool
lists c s = is_some (number_of c s)

-- the mask of two numbers, where both are there
abbrev pub at_numbers : Matrix → (u v : Option ℕ) → ℕ
at_numbers masks None v = 0
at_numbers masks (Some u) None = 0
at_numbers masks (Some u) (Some v) = masks u v

-- A(u, v): what the certificate allows a listed card's stamp u on a listed stamp v. Where one is not listed, or u is no card's,
-- that is nothing.
abbrev pub allows : Certificate → (u v : Stamp) → ℕ
allows c u v = cond (subject_kind u.kind) (at_numbers c.masks (number_of c u) (number_of c v)) 0

-- The same of two entries, by their stamps. Where no entry is, nothing is allowed.
abbrev pub between : Certificate → (row column : Option Stamp) → ℕ
between c None v = 0
between c (Some u) None = 0
between c (Some u) (Some v) = allows c u v

-- the stamp of a number, where one is there
abbrev pub stamp_at : Certificate → (number : Option ℕ) → Option Stamp
stamp_at c None = None
stamp_at c (Some n) = slice_get c.stamps n

-- No two of the listed stamps are the same.
abbrev pub Apart : List Stamp → Type 0
Apart stamps = (m n : ℕ) (s : Stamp) → slice_get stamps m ≡ Some s → slice_get stamps n ≡ Some s → m ≡ n

-- Two numbers have a mask only where both are listed stamps', the first a card's.
abbrev pub OnlyListed : List Stamp → Matrix → Type 0
OnlyListed stamps masks = (m n : ℕ) → (is_subject (slice_get stamps m) && nat_lt n (length stamps)) ≡ false → masks m n ≡ 0
