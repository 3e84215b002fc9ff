-- The kinds of entries by their numbers: 1 is a card (a subject), 2 a thing (any other object).
use Rattle.std.specs.Prelude.{ℕ, Bool, true, false}
use Rattle.model.specs.declared.kind.Kind.{Kind}
use Rattle.model.specs.declared.kind.Kind.TheVariants.{Subject, Object}

abbrev pub kind_number : Kind → ℕ
kind_number Subject = 1
kind_number Object = 2

abbrev pub subject_kind : Kind → Bool
subject_kind Subject = true
subject_kind Object = false
