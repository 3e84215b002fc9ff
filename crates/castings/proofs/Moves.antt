-- Conditions on what moves, and all conditions together.
use Rattle.std.proofs.Common.{◌≡◌, ℕ, ◌<◌, ◌≤◌, Bool, true, false, is_some, List, length, slice_get, Some, None, Option, refl, sym, ap, ◌∙◌, subst, ⊎_elim, arith}
use Rattle.std.proofs.lemmas.Bool.{cases_lt, both_ways}
use Rattle.model.specs.declared.stamp.Stamp.{Stamp}
use Rattle.model.specs.Masks.{has}
use Rattle.model.proofs.Rights.{holds_nothing}
use Rattle.protection.specs.States.{Protection}
use Rattle.certificates.specs.Certificates.{Certificate, between}
use Rattle.castings.specs.declared.escape.Breach.{Breach}
use Rattle.castings.specs.declared.escape.Breach.TheVariants.{Unlisted, Cell, Row, Column}
use Rattle.castings.specs.Closure.{Keeps}
use Rattle.castings.specs.Conditions.{CellKept, MoveKept, MoveKeptOnAll, MoveLost, MovesKept}
use Rattle.castings.specs.Escapes.{IsBreach}
use Rattle.castings.specs.Numbers.{number_at, stamps_by}
use Rattle.castings.proofs.Cells.{some_of}
use Rattle.castings.proofs.Listing.{listed_at, listed_by}

-- Kept on each stamp by its number is kept on each that is listed.
pub on_all : (c : Certificate) (old new : Option Stamp) (n : ℕ) → length c.stamps ≤ n → ((k : ℕ) → k < n → (w : Stamp) → slice_get c.stamps k ≡ Some w → MoveKept c old new w) → MoveKeptOnAll c old new
on_all c old new n all below w listed =
    let found = listed_at c w listed in
    below found.0 (omega (arith, found.1, all)) w found.2

-- where a right is allowed, both are there
row_some : (c : Certificate) (row column : Option Stamp) (right : ℕ) → has (between c row column) right ≡ true → is_some row ≡ true
row_some c None column right h = absurd (both_ways (has 0 right) (holds_nothing right) h)
row_some c (Some u) column right h = refl

column_some : (c : Certificate) (row column : Option Stamp) (right : ℕ) → has (between c row column) right ≡ true → is_some column ≡ true
column_some c None None right h = absurd (both_ways (has 0 right) (holds_nothing right) h)
column_some c None (Some v) right h = refl
column_some c (Some u) None right h = absurd (both_ways (has 0 right) (holds_nothing right) h)
column_some c (Some u) (Some v) right h = refl

module _ (c : Certificate) (renewed : ℕ → Bool) (before after : Protection) (i : ℕ) where
  -- nothing to keep of what does not stand, or is created or destroyed
  pub not_standing : is_some (after.entry i) ≡ false → MovesKept c renewed before after i
  not_standing none s t moves = absurd (both_ways (is_some (after.entry i)) none (ap is_some moves.to))

  pub not_kept : renewed i ≡ true → MovesKept c renewed before after i
  not_kept is s t moves = absurd (both_ways (renewed i) moves.kept is)

  pub moves_on_all : (old new : Option Stamp) → old ≡ before.entry i → new ≡ after.entry i → MoveKeptOnAll c old new → MovesKept c renewed before after i
  moves_on_all old new was is kept s t moves w listed =
      subst (λ o. MoveKept c (Some s) o w) (is ∙ moves.to)
      (subst (λ o. MoveKept c o new w) (was ∙ moves.from) (kept w listed))

  -- and what is lost is a breach
  row_lost : (old new : Option Stamp) → old ≡ before.entry i → new ≡ after.entry i → renewed i ≡ false → is_some (after.entry i) ≡ true → (j : ℕ) (w : Stamp) (right : ℕ) → MoveLost c i old new (Row j w right) → IsBreach c renewed before after (Row j w right)
  row_lost old new was is kept stands j w right (same, listed, lost) =
      let s = some_of old (row_some c old (Some w) right lost.had) in
      let t = some_of (after.entry i) stands in
      subst (λ k. IsBreach c renewed before after (Row k w right)) (sym same)
      (record {
        old = s.0;
        new = t.0;
        moves = record { kept = kept; from = sym was ∙ s.1; to = t.1 };
        listed = listed;
        had = ap (λ o. has (between c o (Some w)) right) (sym s.1) ∙ lost.had;
        lost = ap (λ o. has (between c o (Some w)) right) (sym (is ∙ t.1)) ∙ lost.lost;
      })

  column_lost : (old new : Option Stamp) → old ≡ before.entry i → new ≡ after.entry i → renewed i ≡ false → is_some (after.entry i) ≡ true → (j : ℕ) (w : Stamp) (right : ℕ) → MoveLost c i old new (Column j w right) → IsBreach c renewed before after (Column j w right)
  column_lost old new was is kept stands j w right (same, listed, lost) =
      let s = some_of old (column_some c (Some w) old right lost.had) in
      let t = some_of (after.entry i) stands in
      subst (λ k. IsBreach c renewed before after (Column k w right)) (sym same)
      (record {
        old = s.0;
        new = t.0;
        moves = record { kept = kept; from = sym was ∙ s.1; to = t.1 };
        listed = listed;
        had = ap (λ o. has (between c (Some w) o) right) (sym s.1) ∙ lost.had;
        lost = ap (λ o. has (between c (Some w) o) right) (sym (is ∙ t.1)) ∙ lost.lost;
      })

  pub move_lost : (old new : Option Stamp) → old ≡ before.entry i → new ≡ after.entry i → renewed i ≡ false → is_some (after.entry i) ≡ true → (b : Breach) → MoveLost c i old new b → IsBreach c renewed before after b
  move_lost old new was is kept stands (Unlisted j) lost = absurd lost
  move_lost old new was is kept stands (Cell j k right) lost = absurd lost
  move_lost old new was is kept stands (Row j w right) lost = row_lost old new was is kept stands j w right lost
  move_lost old new was is kept stands (Column j w right) lost = column_lost old new was is kept stands j w right lost

-- what is kept of three is kept of all
pub all_move : (c : Certificate) (renewed : ℕ → Bool) (before after : Protection) (n : ℕ) → 3 ≤ n → ((i : ℕ) → 3 ≤ i → after.entry i ≡ None) → ((i : ℕ) → i < n → MovesKept c renewed before after i) → (i : ℕ) → MovesKept c renewed before after i
all_move c renewed before after n all none below i =
    ⊎_elim
    (λ (low : i < n). below i low)
    (λ (past : n ≤ i). not_standing c renewed before after i (ap is_some (none i (omega (arith, all, past)))))
    (cases_lt i n)

-- The conditions, taken together.
pub all_kept : (c : Certificate) (renewed : ℕ → Bool) (before after : Protection) (numbers : List (Option ℕ)) → stamps_by c numbers ≡ after.entry → ((i j : ℕ) → CellKept c after i j) → ((i : ℕ) → MovesKept c renewed before after i) → Keeps c renewed before after
all_kept c renewed before after numbers same cells moves = record {
  stamps = λ i s stands. listed_by c (number_at numbers i) s (ap (λ f. f i) same ∙ stands);
  cells = cells;
  rows = λ i s t w moved listed. (moves i s t moved w listed).row;
  columns = λ i s t w moved listed. (moves i s t moved w listed).column;
}
