-- When a certificate is closed under a command: whatever the command makes of a passing casting, the certificate allows it.
use Rattle.std.specs.Prelude.{◌≡◌, ℕ, Bool, true, false, Some}
use Rattle.model.specs.declared.stamp.Stamp.{Stamp}
use Rattle.model.specs.Masks.{Within}
use Rattle.scheme.specs.Commands.{Command}
use Rattle.protection.specs.Commands.{run}
use Rattle.protection.specs.Excerpts.{itself, renewed}
use Rattle.protection.specs.States.{Protection}
use Rattle.certificates.specs.Certificates.{Certificate, lists, allows}
use Rattle.castings.specs.Castings.{Casting, Casts, cast_state, Passes}

-- the command's steps, run on what the parameters of a casting see
abbrev pub outcome_of : Certificate → Command → Casting → Protection
outcome_of c m σ = run m.cards itself m.steps (cast_state c σ)

-- a parameter that is neither created nor destroyed goes from stamp s to stamp t
pub record Moves (renewed : ℕ → Bool) (before after : Protection) (i : ℕ) (s t : Stamp) : Type 0 where
  pub kept : renewed i ≡ false
  pub from : before.entry i ≡ Some s
  pub to : after.entry i ≡ Some t

-- What a certificate must allow, of what the parameters saw before and see after.
pub record Keeps (c : Certificate) (renewed : ℕ → Bool) (before after : Protection) : Type 0 where
  -- the new stamp of each that is left standing is listed
  pub stamps : (i : ℕ) (s : Stamp) → after.entry i ≡ Some s → lists c s ≡ true
  -- each new cell between two left standing, or of one on itself, lies within what is allowed of their new stamps
  pub cells : (i j : ℕ) (s t : Stamp) → after.entry i ≡ Some s → after.entry j ≡ Some t → Within (after.cells i j) (allows c s t)
  -- for each that moves, and each listed stamp w, what it was allowed on w it is allowed as its new stamp too
  pub rows : (i : ℕ) (s t w : Stamp) → Moves renewed before after i s t → lists c w ≡ true → Within (allows c s w) (allows c t w)
  -- and what w was allowed on it
  pub columns : (i : ℕ) (s t w : Stamp) → Moves renewed before after i s t → lists c w ≡ true → Within (allows c w s) (allows c w t)

-- The certificate is closed under a command when it keeps this for each passing casting.
abbrev pub Closed : (covers : (k a b : ℕ) → Bool) → Certificate → Command → Type 0
Closed covers c m =
    (σ : Casting)
    → Casts c m σ
    → Passes covers m (cast_state c σ)
    → Keeps c (renewed m.steps) (cast_state c σ) (outcome_of c m σ)
