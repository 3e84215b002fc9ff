-- Three names at most see nothing past the third parameter, since a number that is no name has no entry, and empty cells only.
use Rattle.std.proofs.Common.{◌≡◌, ℕ, ◌≤◌, ◌⊎◌, false, cond, ◌&&◌, None, List, length, refl, ap, ◌∙◌, ⊎_elim, arith}
use Rattle.std.proofs.lemmas.Bool.{and_right}
use Rattle.std.proofs.lemmas.List.{get_or_past}
use Rattle.stores.specs.Matrices.{is_name}
use Rattle.protection.specs.Commands.{name_at, seen}
use Rattle.protection.specs.States.{Protection}

module _ (p : Protection) (names : List ℕ) (few : length names ≤ 3) where
  no_name : (i : ℕ) → 3 ≤ i → name_at names i ≡ 64
  no_name i past = get_or_past names i 64 (omega arith)

  pub unseen_entry : ((n : ℕ) → p.entry n ≡ cond (is_name n) (p.entry n) None) → (i : ℕ) → 3 ≤ i → (seen (name_at names) p).entry i ≡ None
  unseen_entry none i past = ap p.entry (no_name i past) ∙ none 64

  pub unseen_cell : ((s o : ℕ) → (is_name s && is_name o) ≡ false → p.cells s o ≡ 0) → (i j : ℕ) → (3 ≤ i) ⊎ (3 ≤ j) → (seen (name_at names) p).cells i j ≡ 0
  unseen_cell empty i j past =
      empty (name_at names i) (name_at names j)
      (⊎_elim
      (λ (row : 3 ≤ i). rw (no_name i row) refl)
      (λ (column : 3 ≤ j). rw (no_name j column) (and_right (is_name (name_at names i)) false refl))
      past)
