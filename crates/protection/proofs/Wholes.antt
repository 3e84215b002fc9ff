-- The steps of a command run on the whole state are its steps run on what its parameters see, put back.
use Rattle.std.proofs.Common.{◌≡◌, ℕ, Some, None, Option, List, length, unwrap_or, sym, refl, ap, ◌∙◌, subst, inl, inr, arith}
use Rattle.std.proofs.Math.Bool.{or-false}
use Rattle.scheme.specs.declared.step.Step.{Step}
use Rattle.scheme.specs.Commands.{Command}
use Rattle.protection.specs.Commands.{name_at, seen, run}
use Rattle.protection.specs.Excerpts.{parameter_of, renewed, entry_back, cell_back, put_back, itself, Distinct, RunsWhole}
use Rattle.protection.specs.Places.{cell_after_all, entry_after_all}
use Rattle.protection.specs.States.{Protection}
use Rattle.protection.proofs.Naming.{placed_itself, place_in, named, placed_names}
use Rattle.protection.proofs.Outside.{outside_run, none_renewed, entry_kept}
use Rattle.protection.proofs.Places.{Shaped, run_cell, run_entry}
use Rattle.protection.proofs.States.{same_state}

module _ (cards : ℕ) (steps : List Step) (names : List ℕ) (p : Protection) (shaped : Shaped (length names) steps) where
  abbrev back : Protection
  back = run cards itself steps (seen (name_at names) p)

  back_entry : (i n : ℕ) → name_at names i ≡ n → back.entry i ≡ entry_after_all cards steps i (p.entry n)
  back_entry i n e =
      run_entry cards (length names) itself itself (placed_itself (length names)) steps (seen (name_at names) p) i shaped
      ∙ ap (λ m. entry_after_all cards steps i (p.entry m)) e

  back_cell : (i j s o : ℕ) → name_at names i ≡ s → name_at names j ≡ o → back.cells i j ≡ cell_after_all steps i j (p.cells s o)
  back_cell i j s o row column =
      run_cell cards (length names) itself itself (placed_itself (length names)) steps (seen (name_at names) p) i j shaped
      ∙ ap (λ m. cell_after_all steps i j (p.cells m (name_at names j))) row
      ∙ ap (λ m. cell_after_all steps i j (p.cells s m)) column

  whole_entry : (n : ℕ) (o : Option ℕ) → parameter_of names n ≡ o → entry_after_all cards steps (unwrap_or o (length names)) (p.entry n) ≡ entry_back back.entry o (p.entry n)
  whole_entry n (Some i) e = sym (back_entry i n (named names n i e).1)
  whole_entry n None e = entry_kept cards (length names) steps (length names) (p.entry n) (omega arith) shaped

  whole_cell : (s o : ℕ) (a b : Option ℕ) → parameter_of names s ≡ a → parameter_of names o ≡ b → cell_after_all steps (unwrap_or a (length names)) (unwrap_or b (length names)) (p.cells s o) ≡ cell_back (renewed steps) back.cells a b (p.cells s o)
  whole_cell s o (Some i) (Some j) row column = sym (back_cell i j s o (named names s i row).1 (named names o j column).1)
  whole_cell s o (Some i) None row column =
      outside_run (length names) steps i (length names) (p.cells s o) (inr (omega arith)) shaped
      ∙ rw (none_renewed (length names) steps (length names) (omega arith) shaped, or-false (renewed steps i)) refl
  whole_cell s o None (Some j) row column =
      outside_run (length names) steps (length names) j (p.cells s o) (inl (omega arith)) shaped
      ∙ rw (none_renewed (length names) steps (length names) (omega arith) shaped) refl
  whole_cell s o None None row column =
      outside_run (length names) steps (length names) (length names) (p.cells s o) (inl (omega arith)) shaped
      ∙ rw (none_renewed (length names) steps (length names) (omega arith) shaped) refl

  pub runs_back : Distinct names → run cards (name_at names) steps p ≡ put_back names (renewed steps) back p
  runs_back distinct =
      let placed = placed_names names distinct in
      same_state (run cards (name_at names) steps p) (put_back names (renewed steps) back p)
      (λ n. run_entry cards (length names) (name_at names) (place_in names) placed steps p n shaped ∙ whole_entry n (parameter_of names n) refl)
      (λ s o. run_cell cards (length names) (name_at names) (place_in names) placed steps p s o shaped ∙ whole_cell s o (parameter_of names s) (parameter_of names o) refl refl)

pub runs_whole : (m : Command) → Shaped m.params m.steps → RunsWhole m
runs_whole m shaped names p long distinct = runs_back m.cards m.steps names p (subst (λ n. Shaped n m.steps) (sym long) shaped) distinct
