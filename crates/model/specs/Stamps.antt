-- A stamp is an entry's kind with its four attributes.
use Rattle.std.specs.Prelude.{ℕ, Bool, true, false, ◌&&◌, List, [], ◌∷◌, Some, None, Option, ◌==◌, slice_get, unwrap_or}
use Rattle.model.specs.declared.kind.Kind.{Kind}
use Rattle.model.specs.declared.stamp.Stamp.{Stamp}
use Rattle.model.specs.Kinds.{kind_number, subject_kind}

-- the stamp of this kind with attributes 0 to 3
abbrev pub stamp_of : (kind : Kind) → (a b c d : Option ℕ) → Stamp
stamp_of kind a b c d = record { kind = kind; attributes = a ∷ b ∷ c ∷ d ∷ [] }

-- attribute k of a stamp, where none is null; there is none over 3
abbrev pub attribute_of : Stamp → ℕ → Option ℕ
attribute_of s k = unwrap_or (slice_get s.attributes k) None

-- both null, or the same value
abbrev pub same_value : Option ℕ → Option ℕ → Bool
same_value None None = true
same_value None (Some b) = false
same_value (Some a) None = false
same_value (Some a) (Some b) = a == b

-- a value as a number, and null as one that is no value
abbrev pub value_number : Option ℕ → ℕ
value_number None = 256
value_number (Some v) = v

-- as many, and the same one by one
abbrev pub same_values : List (Option ℕ) → List (Option ℕ) → Bool
same_values [] [] = true
same_values [] (y ∷ ys) = false
same_values (x ∷ xs) [] = false
same_values (x ∷ xs) (y ∷ ys) = same_value x y && same_values xs ys

-- the same kind and the same attributes
abbrev pub same_stamp : Stamp → Stamp → Bool
same_stamp s t = (kind_number s.kind == kind_number t.kind) && same_values s.attributes t.attributes

-- a stamp, if there is one, that is a subject's
abbrev pub is_subject : Option Stamp → Bool
is_subject None = false
is_subject (Some s) = subject_kind s.kind
