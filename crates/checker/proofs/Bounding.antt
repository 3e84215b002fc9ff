-- A state that a certificate contains is sound: it allows rights only to cards that stand, on entries that stand.
use Rattle.std.proofs.Common.{◌≡◌, ℕ, ◌<◌, true, false, Some, None, Option, is_some, sym, refl, ◌∙◌, ⊎_elim, arith}
use Rattle.std.proofs.lemmas.Bool.{cases_Bool, cases_eq, both_ways, false_from_ne_true}
use Rattle.std.proofs.lemmas.Nat.Bits.{bit_at-zero, same_from_bits}
use Rattle.model.specs.declared.stamp.Stamp.{Stamp}
use Rattle.model.specs.Kinds.{subject_kind}
use Rattle.model.specs.Masks.{has, Within}
use Rattle.model.proofs.Rights.{holds_nothing, none_from}
use Rattle.protection.specs.Sound.{Sound}
use Rattle.protection.specs.States.{Protection, is_subject}
use Rattle.certificates.specs.Certificates.{Certificate, between}
use Rattle.checker.specs.Containing.{Contains}

-- a mask with a right in it is not empty
pub filled_by : (m r : ℕ) → has m r ≡ true → 0 < m
filled_by m r h =
    ⊎_elim
    (λ (empty : m ≡ 0). absurd (both_ways (has 0 r) (holds_nothing r) (rw empty at h)))
    (λ (other : m ≡ 0 → ⊥). omega (arith, other))
    (cases_eq m 0)

pub within_nothing : (m : ℕ) → Within m 0 → m ≡ 0
within_nothing m within =
    same_from_bits m 0
    (λ q.
    none_from m q (false_from_ne_true (has m q) (λ h. both_ways (has 0 q) (holds_nothing q) (within q h)))
    ∙ sym (bit_at-zero q))

not_filled : (m : ℕ) → Within m 0 → 0 < m → ⊥
not_filled m within held = let empty : m ≡ 0 = within_nothing m within in omega arith

ends_stand : (c : Certificate) (m : ℕ) (row column : Option Stamp) → Within m (between c row column) → 0 < m → (is_subject row ≡ true) × (is_some column ≡ true)
ends_stand c m None column within held = absurd (not_filled m within held)
ends_stand c m (Some u) None within held = absurd (not_filled m within held)
ends_stand c m (Some u) (Some v) within held =
    ⊎_elim
    (λ (card : subject_kind u.kind ≡ true). (card, refl))
    (λ (thing : subject_kind u.kind ≡ false). absurd (not_filled m (rw thing at within) held))
    (cases_Bool (subject_kind u.kind))

pub contained_sound : (c : Certificate) (p : Protection) → Contains c p → Sound p
contained_sound c p contains s o held = ends_stand c (p.cells s o) (p.entry s) (p.entry o) (contains.cells s o) held
