-- What a filter by one attribute asks of a question, and what it answers.
use Rattle.std.specs.Prelude.{ℕ, Bool, not, ◌&&◌, ◌||◌, Option, is_none}
use Rattle.model.specs.Masks.{has}
use Rattle.model.specs.Scales.{both_cover}
use Rattle.model.specs.Stamps.{attribute_of}
use Rattle.rulings.specs.declared.filter.AttributeFilter.{AttributeFilter}
use Rattle.rulings.specs.declared.question.Question.{Question}

-- the right is not among these rights, or the row's value of attribute k covers the column's
abbrev pub passes : (covers : ℕ → ℕ → Bool) → (k rights : ℕ) → Question → Bool
passes covers k rights q =
    not (has rights q.right) || both_cover covers (attribute_of q.row_stamp k) (attribute_of q.column_stamp k)

-- the right is among these rights, and the row's or the column's value of attribute k is null
abbrev pub meets_null : (k rights : ℕ) → Question → Bool
meets_null k rights q =
    has rights q.right
    && (is_none (attribute_of q.row_stamp k) || is_none (attribute_of q.column_stamp k))

-- the filter by this attribute, for these rights, over this ruling; its scale is a type and has no values
abbrev pub filter_by : {S R : Type 0} → (attribute rights : ℕ) → (below : R) → AttributeFilter S R
filter_by attribute rights below = record { attribute = attribute; rights = rights; below = below; scale = record {} }

-- A filter says yes if the ruling below does and the question passes.
abbrev pub filter_says : {S R : Type 0} → (covers : ℕ → ℕ → Bool) → (below_says : R → Question → Bool) → AttributeFilter S R → Question → Bool
filter_says covers below_says f q = below_says f.below q && passes covers f.attribute f.rights q
