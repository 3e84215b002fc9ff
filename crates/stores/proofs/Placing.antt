-- On a board there is a place for every cell, and the number of those that are not empty is kept by every change.
use Rattle.std.proofs.Common.{◌≡◌, ℕ, ◌+◌, ◌*◌, ◌<◌, ◌≤◌, true, None, List, length, get_or, set, sym, ap, ◌∙◌, ⊎_elim, arith, length-set, get_or-set_same, get_or-set_other}
use Rattle.std.proofs.lemmas.Bool.{cases_lt}
use Rattle.model.specs.Answers.{lowest}
use Rattle.stores.specs.Boards.{IsBoard, board_cells, board_limit, shown}
use Rattle.stores.specs.Matrices.{Matrix, blank, written, some, one_if, count, has_room, takes, write_rules}
use Rattle.stores.proofs.Counting.{count_blank, count_bound, count_held, count_room, count_written}
use Rattle.stores.proofs.Taking.{room_over, room_below, decided}
use Rattle.stores.proofs.Writing.{at_names, written_by}

-- A board is never full where a cell of it is empty, so it refuses no name.
module _ (f : Matrix) (s o m : ℕ) (hs : s < 64) (ho : o < 64) where
  never_full : has_room board_limit f s o m ≡ true
  never_full =
      ⊎_elim
      (λ (held : 0 < f s o). room_over board_limit f s o m held)
      (λ (empty : f s o ≤ 0). room_below board_limit f s o m (count_room f s o hs ho (omega arith)))
      (cases_lt 0 (f s o))

  pub board_decided : (lowest (write_rules board_limit f s o m) ≡ None) × (takes board_limit f s o m ≡ true)
  board_decided = decided board_limit f s o m hs ho true never_full

-- masks whose cells are all empty are a board's, with the number 0
pub none_counted : {masks : List ℕ} → length masks ≡ 4096 → shown masks ≡ blank → IsBoard masks 0
none_counted whole empty = record { whole = whole; counted = sym (ap count empty ∙ count_blank) }

-- no board has more non-empty cells than its limit
pub within_limit : {masks : List ℕ} {filled : ℕ} → IsBoard masks filled → filled ≤ board_limit
within_limit {masks = masks} board = rw board.counted (count_bound (shown masks))

-- A cell of a board, and its place.
module _ {masks : List ℕ} {filled : ℕ} (board : IsBoard masks filled) (s o place : ℕ) (named : (s < 64) × (o < 64) × (place ≡ 64 * s + o)) where
  held : shown masks s o ≡ get_or masks place 0
  held = rw named.2 (at_names (board_cells masks) s o named.0 named.1)

  -- the number has the cell in it if it is not empty
  pub some_counted : one_if (some (get_or masks place 0)) ≤ filled
  some_counted = rw (← held, board.counted) (count_held (shown masks) s o named.0 named.1)

  -- a mask set at the place is written into the cell, and into no other
  pub shown_written : (m : ℕ) → shown (set masks place m) ≡ written (shown masks) s o m
  shown_written m =
      rw named.2
      (written_by (board_cells masks) (board_cells (set masks (64 * s + o) m)) s o m named.0 named.1
      (get_or-set_same masks (64 * s + o) m 0 (omega (arith, board.whole)))
      (λ a b ha hb other. get_or-set_other masks (64 * s + o) (64 * a + b) m 0 (λ e. other (omega (arith, e), omega (arith, e)))))

  -- The number with the old mask taken out and the new one put in is right for the board that is left.
  pub board_written : (m n : ℕ) → n + one_if (some (get_or masks place 0)) ≡ filled + one_if (some m) → IsBoard (set masks place m) n
  board_written m n e =
      let change : count (written (shown masks) s o m) + one_if (some (shown masks s o)) ≡ count (shown masks) + one_if (some m) = count_written (shown masks) s o m named.0 named.1 in
      let old : one_if (some (shown masks s o)) ≡ one_if (some (get_or masks place 0)) = ap (λ v. one_if (some v)) held in
      let new : count (shown (set masks place m)) ≡ count (written (shown masks) s o m) = ap count (shown_written m) in
      record { whole = length-set masks place m ∙ board.whole; counted = omega (arith, board.counted) }
