-- How a change is made: in two passes, each over all cells. What is said here shows that none of its writes is refused.
use Rattle.std.specs.Prelude.{◌≡◌, ℕ, ◌≤◌, Bool, true, not, ⊤}
use Rattle.stores.specs.Matrices.{Matrix, some, count}
use Rattle.changes.specs.declared.change.Change.{Change}
use Rattle.changes.specs.declared.change.making.Pass.{Pass}
use Rattle.changes.specs.declared.change.making.Pass.TheVariants.{Emptying, Filling}
use Rattle.changes.specs.Changes.{changed}

-- the pass writes such a mask
abbrev pub writes : Pass → (m : ℕ) → Bool
writes Emptying m = not (some m)
writes Filling m = some m

-- the cell [s, o] is as it is to be
abbrev pub Done : Change → Matrix → (s o : ℕ) → Type 0
Done c f s o = changed c f s o ≡ f s o

-- it is, if the pass writes what it is to be
abbrev pub Settled : Pass → Change → Matrix → (s o : ℕ) → Type 0
Settled pass c f s o = writes pass (changed c f s o) ≡ true → Done c f s o

-- when the second pass begins, the first has settled all cells
abbrev pub Begun : Pass → Change → Matrix → Type 0
Begun Emptying c f = ⊤
Begun Filling c f = (s o : ℕ) → Settled Emptying c f s o

-- what a pass counts on: what is to be keeps within the limit, and the pass before is over
pub record Ready (pass : Pass) (c : Change) (limit : ℕ) (f : Matrix) : Type 0 where
  pub within : count (changed c f) ≤ limit
  pub begun : Begun pass c f

-- From f to g, what is to be stays the same, and what is done stays done.
pub record Onward (c : Change) (f g : Matrix) : Type 0 where
  pub target : changed c g ≡ changed c f
  pub kept : (s o : ℕ) → Done c f s o → Done c g s o
