-- When two states are one.
use Rattle.std.proofs.Common.{◌≡◌, ℕ, Option, ap, ◌∙◌}
use mathlib.Core.Path.{fun_ext}
use Rattle.model.specs.declared.stamp.Stamp.{Stamp}
use Rattle.stores.specs.Matrices.{Matrix}
use Rattle.protection.specs.States.{Protection}

-- they agree at each name
pub same_state : (p q : Protection) → ((n : ℕ) → p.entry n ≡ q.entry n) → ((s o : ℕ) → p.cells s o ≡ q.cells s o) → p ≡ q
same_state p q entries cells =
    let state : (ℕ → Option Stamp) → Matrix → Protection = λ e c. record { entry = e; cells = c } in
    ap (λ e. state e p.cells) (fun_ext entries) ∙ ap (state q.entry) (fun_ext (λ s. fun_ext (cells s)))
