-- The moves that are noted as such that lose nothing.
use Rattle.std.proofs.Common.{◌≡◌, ◌≢◌, ℕ, zero, suc, ◌<◌, ◌≤◌, Bool, true, false, List, [], length, get_or, set, replicate, Some, None, Option, refl, sym, ap, ◌∙◌, subst, ⊎_elim, get_or-set_same, get_or-set_other}
use Rattle.std.proofs.lemmas.Bool.{cases_lt, cases_eq, both_ways}
use Rattle.std.proofs.lemmas.List.{set_past}
use Rattle.certificates.specs.Certificates.{Certificate, stamp_at}
use Rattle.castings.specs.Conditions.{MoveKeptOnAll}
use Rattle.castings.specs.Shifts.{is_known, KnownFrom, Known}

-- a move that is known to lose nothing loses nothing
pub known_move : (c : Certificate) (rows : List (List Bool)) (was is : Option ℕ) → Known c rows → is_known rows was is ≡ true → MoveKeptOnAll c (stamp_at c was) (stamp_at c is)
known_move c rows None is known h = cc
known_move c rows (Some u) None known h = cc
known_move c rows (Some u) (Some v) known h = known u v h

-- one more is noted
pub known_from_more : (c : Certificate) (u : ℕ) (row : List Bool) (v : ℕ) (b : Bool) → KnownFrom c u row → (b ≡ true → MoveKeptOnAll c (stamp_at c (Some u)) (stamp_at c (Some v))) → KnownFrom c u (set row v b)
known_from_more c u row v b known here k h =
    ⊎_elim
    (λ (same : k ≡ v).
    ⊎_elim
    (λ (low : v < length row).
    subst (λ n. MoveKeptOnAll c (stamp_at c (Some u)) (stamp_at c (Some n))) (sym same)
    (here (sym (get_or-set_same row v b false low) ∙ ap (λ n. get_or (set row v b) n false) (sym same) ∙ h)))
    (λ (past : length row ≤ v). known k (ap (λ r. get_or r k false) (sym (set_past row v b past)) ∙ h))
    (cases_lt v (length row)))
    (λ (other : k ≢ v). known k (sym (get_or-set_other row v k b false other) ∙ h))
    (cases_eq k v)

pub known_more : (c : Certificate) (rows : List (List Bool)) (u : ℕ) (row : List Bool) → Known c rows → KnownFrom c u row → Known c (set rows u row)
known_more c rows u row known here k =
    ⊎_elim
    (λ (same : k ≡ u).
    ⊎_elim
    (λ (low : u < length rows).
    subst (KnownFrom c k) (sym (get_or-set_same rows u row [] low) ∙ ap (λ n. get_or (set rows u row) n []) (sym same))
    (subst (λ n. KnownFrom c n row) (sym same) here))
    (λ (past : length rows ≤ u). subst (KnownFrom c k) (ap (λ r. get_or r k []) (sym (set_past rows u row past))) (known k))
    (cases_lt u (length rows)))
    (λ (other : k ≢ u). subst (KnownFrom c k) (sym (get_or-set_other rows u k row [] other)) (known k))
    (cases_eq k u)

none_noted : (n k : ℕ) → get_or (replicate n false) k false ≡ false
none_noted zero k = refl
none_noted (suc n) zero = refl
none_noted (suc n) (suc k) = none_noted n k

none_in_rows : (n : ℕ) (row : List Bool) → ((k : ℕ) → get_or row k false ≡ false) → (u k : ℕ) → get_or (get_or (replicate n row) u []) k false ≡ false
none_in_rows zero row none u k = refl
none_in_rows (suc n) row none zero k = none k
none_in_rows (suc n) row none (suc u) k = none_in_rows n row none u k

pub none_known_from : (c : Certificate) (u n : ℕ) → KnownFrom c u (replicate n false)
none_known_from c u n v h = absurd (both_ways (get_or (replicate n false) v false) (none_noted n v) h)

pub none_known : (c : Certificate) (n k : ℕ) → Known c (replicate n (replicate k false))
none_known c n k u v h = absurd (both_ways (get_or (get_or (replicate n (replicate k false)) u []) v false) (none_in_rows n (replicate k false) (none_noted k) u v) h)
