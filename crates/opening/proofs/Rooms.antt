-- The room that a right needs in a store.
use Rattle.std.proofs.Common.{◌≡◌, ℕ, ◌<◌, not, ◌||◌, ltb, ap, ◌∙◌}
use Rattle.std.proofs.lemmas.Bool.{lt-ltb}
use Rattle.model.specs.Masks.{with_right}
use Rattle.model.proofs.Rights.{with_some}
use Rattle.stores.specs.Matrices.{Matrix, some, count, has_room}

-- A mask with a right in it is not empty, so it needs a cell that is not empty already, or room for one more.
pub right_room : (limit : ℕ) (f : Matrix) (s o r m : ℕ) → r < 16 → m ≡ with_right (f s o) r → has_room limit f s o m ≡ (some (f s o) || ltb (count f) limit)
right_room limit f s o r m low is =
    ap (λ b. some (f s o) || (not b || ltb (count f) limit)) (ap some is ∙ lt-ltb 0 (with_right (f s o) r) (with_some (f s o) r low))
