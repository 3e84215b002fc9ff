-- Castings are monotone: one of a table is one of each certificate that lies above it, and leaves the same stamps and no fewer rights
-- there. So whatever lies above the table and is closed has all that a casting of the table needs.
use Rattle.std.proofs.Common.{◌≡◌, ℕ, Bool, true, not, ◌&&◌, ◌||◌, List, [], ◌∷◌, Some, None, Option, sym, ap, refl, ◌∙◌}
use Rattle.std.specs.List.{list_all}
use Rattle.std.proofs.lemmas.Bool.{and_parts, and_from}
use Rattle.model.specs.declared.stamp.Stamp.{Stamp}
use Rattle.model.specs.Kinds.{subject_kind}
use Rattle.model.specs.Masks.{has, Within}
use Rattle.scheme.specs.declared.test.Test.{Test}
use Rattle.scheme.specs.declared.test.Test.TheVariants.{Holds, Is, IsNot, Covers}
use Rattle.scheme.specs.Commands.{Command}
use Rattle.protection.specs.Commands.{passes}
use Rattle.protection.specs.Excerpts.{itself, renewed}
use Rattle.protection.proofs.Naming.{placed_itself}
use Rattle.protection.proofs.Places.{Shaped, run_cell, run_entry}
use Rattle.certificates.specs.Certificates.{Certificate, lists, allows, between}
use Rattle.castings.specs.Castings.{Casting, Casts, cast_state, is_cast, suits, Passes}
use Rattle.castings.specs.Closure.{Closed, Keeps, Moves, outcome_of}
use Rattle.checker.proofs.Monotone.{grows}
use Rattle.maker.specs.Comparing.{Above}
use Rattle.maker.proofs.Comparing.{between_above}

-- a stamp that may be given may be given there too
suits_above : (d t : Certificate) (m : Command) (i : ℕ) (e : Option Stamp) → Above d t → suits t m i e ≡ true → suits d m i e ≡ true
suits_above d t m i None above h = h
suits_above d t m i (Some s) above h =
    let outer = and_parts (is_cast m i) (lists t s && (not (has m.cards i) || subject_kind s.kind)) h in
    let inner = and_parts (lists t s) (not (has m.cards i) || subject_kind s.kind) outer.1 in
    and_from (is_cast m i) (lists d s && (not (has m.cards i) || subject_kind s.kind)) outer.0
    (and_from (lists d s) (not (has m.cards i) || subject_kind s.kind) (above.stamps s inner.0) inner.1)

-- a test that passes passes there too: no test asks that a right be absent
passes_above : (covers : ℕ → ℕ → ℕ → Bool) (d t : Certificate) (σ : Casting) (test : Test) → Above d t → passes covers (cast_state t σ) test ≡ true → passes covers (cast_state d σ) test ≡ true
passes_above covers d t σ (Holds r i j) above h = between_above d t above (σ i) (σ j) r h
passes_above covers d t σ (Is i k v) above h = h
passes_above covers d t σ (IsNot i k v) above h = h
passes_above covers d t σ (Covers i k j) above h = h

all_above : (covers : ℕ → ℕ → ℕ → Bool) (d t : Certificate) (σ : Casting) (tests : List Test) → Above d t → list_all (passes covers (cast_state t σ)) tests ≡ true → list_all (passes covers (cast_state d σ)) tests ≡ true
all_above covers d t σ [] above h = refl
all_above covers d t σ (test ∷ tests) above h =
    let parts = and_parts (passes covers (cast_state t σ) test) (list_all (passes covers (cast_state t σ)) tests) h in
    and_from (passes covers (cast_state d σ) test) (list_all (passes covers (cast_state d σ)) tests)
    (passes_above covers d t σ test above parts.0)
    (all_above covers d t σ tests above parts.1)

module _ (n : ℕ) (m : Command) (shaped : Shaped n m.steps) (σ : Casting) (d t : Certificate) (above : Above d t) where
  -- the stamps afterwards are the same, since they depend on no right
  pub same_entry : (i : ℕ) → (outcome_of d m σ).entry i ≡ (outcome_of t m σ).entry i
  same_entry i =
      run_entry m.cards n itself itself (placed_itself n) m.steps (cast_state d σ) i shaped
      ∙ sym (run_entry m.cards n itself itself (placed_itself n) m.steps (cast_state t σ) i shaped)

  -- and the cells afterwards are no smaller
  pub larger_cell : (i j : ℕ) → Within ((outcome_of t m σ).cells i j) ((outcome_of d m σ).cells i j)
  larger_cell i j r h =
      ap (λ c. has c r) (run_cell m.cards n itself itself (placed_itself n) m.steps (cast_state d σ) i j shaped)
      ∙ grows m.steps i j (between t (σ i) (σ j)) (between d (σ i) (σ j)) (between_above d t above (σ i) (σ j)) r
      (ap (λ c. has c r) (sym (run_cell m.cards n itself itself (placed_itself n) m.steps (cast_state t σ) i j shaped)) ∙ h)

  module _ (covers : ℕ → ℕ → ℕ → Bool) (closed : Closed covers d m) (casts : Casts t m σ) (passing : Passes covers m (cast_state t σ)) where
    keeps : Keeps d (renewed m.steps) (cast_state d σ) (outcome_of d m σ)
    keeps = closed σ (λ i. suits_above d t m i (σ i) above (casts i)) (all_above covers d t σ m.tests above passing)

    -- a move in the table is a move there
    moves_above : (i : ℕ) (u v : Stamp) → Moves (renewed m.steps) (cast_state t σ) (outcome_of t m σ) i u v → Moves (renewed m.steps) (cast_state d σ) (outcome_of d m σ) i u v
    moves_above i u v moves = record { kept = moves.kept; from = moves.from; to = same_entry i ∙ moves.to }

    -- So there each new stamp is listed,
    pub stamp_kept : (i : ℕ) (s : Stamp) → (outcome_of t m σ).entry i ≡ Some s → lists d s ≡ true
    stamp_kept i s stands = keeps.stamps i s (same_entry i ∙ stands)

    -- each new cell is allowed,
    pub cell_kept : (i j : ℕ) (u v : Stamp) → (outcome_of t m σ).entry i ≡ Some u → (outcome_of t m σ).entry j ≡ Some v → Within ((outcome_of t m σ).cells i j) (allows d u v)
    cell_kept i j u v row column r h = keeps.cells i j u v (same_entry i ∙ row) (same_entry j ∙ column) r (larger_cell i j r h)

    -- and one that moves is allowed on a listed stamp what it was,
    pub row_kept : (i : ℕ) (u v w : Stamp) → Moves (renewed m.steps) (cast_state t σ) (outcome_of t m σ) i u v → lists t w ≡ true → Within (allows t u w) (allows d v w)
    row_kept i u v w moves listed r h = keeps.rows i u v w (moves_above i u v moves) (above.stamps w listed) r (above.rights u w r h)

    -- and this on it.
    pub column_kept : (i : ℕ) (u v w : Stamp) → Moves (renewed m.steps) (cast_state t σ) (outcome_of t m σ) i u v → lists t w ≡ true → Within (allows t w u) (allows d w v)
    column_kept i u v w moves listed r h = keeps.columns i u v w (moves_above i u v moves) (above.stamps w listed) r (above.rights w u r h)
