-- Why no write of a change is refused, and what each leaves.
use Rattle.std.proofs.Common.{◌≡◌, ℕ, ◌<◌, ◌≤◌, true, false, ◌&&◌, inl, inr, Some, Result, unwrap_or, is_ok, subst, sym, refl, ap, ◌∙◌, ⊎_elim, arith}
use mathlib.Core.Path.{fun_ext}
use Rattle.std.proofs.lemmas.Bool.{cases_lt, lt-ltb, le-ltb, ltb-true, ltb-false, not-true, and_right}
use Rattle.stores.specs.Matrices.{Matrix, is_name, written, some, count, has_room, takes, write_rules}
use Rattle.stores.proofs.Taking.{room_over, room_none, room_below, decided}
use Rattle.stores.proofs.Writing.{written_here}
use Rattle.model.specs.Answers.{refused_by, lowest, unless}
use Rattle.model.specs.declared.fault.Reason.{Reason}
use Rattle.changes.specs.declared.change.Change.{Change}
use Rattle.changes.specs.declared.change.making.Pass.{Pass}
use Rattle.changes.specs.declared.change.making.Pass.TheVariants.{Emptying, Filling}
use Rattle.changes.specs.Changes.{changed}
use Rattle.changes.specs.Making.{writes, Done, Settled, Begun, Ready, Onward}
use Rattle.changes.specs.Puts.{put_in}
use Rattle.changes.proofs.Cells.{changed_at, outside}
use Rattle.changes.proofs.Filling.{Inside, written_at, count_less}

-- what is written in the first pass, and in the second
none_in : (m : ℕ) → writes Emptying m ≡ true → m ≡ 0
none_in m e = omega (arith, ltb-false 0 m (not-true (some m) e))

some_in : (m : ℕ) → writes Filling m ≡ true → 0 < m
some_in m e = ltb-true 0 m e

-- A pass that writes m into the cell [s, o], as is put there.
module _ (c : Change) (f : Matrix) (s o m : ℕ) (put : put_in c s o ≡ Some m) where
  to_be : (g : Matrix) → changed c g s o ≡ m
  to_be g = changed_at c g s o ∙ ap (λ p. unwrap_or p (g s o)) put

  same_target : changed c (written f s o m) ≡ changed c f
  same_target = fun_ext (λ a. fun_ext (λ b.
      ⊎_elim
      (λ here. rw (here.0, here.1) (to_be (written f s o m) ∙ sym (to_be f)))
      (λ (beside : written f s o m a b ≡ f a b). changed_at c (written f s o m) a b ∙ (ap (unwrap_or (put_in c a b)) beside ∙ sym (changed_at c f a b)))
      (written_at f s o m a b)))

  stays_done : (a b : ℕ) → Done c f a b → Done c (written f s o m) a b
  stays_done a b done =
      ⊎_elim
      (λ here. rw (here.0, here.1) (to_be (written f s o m) ∙ sym (written_here f s o m)))
      (λ (beside : written f s o m a b ≡ f a b). ap (λ t. t a b) same_target ∙ (done ∙ sym beside))
      (written_at f s o m a b)

  onward : Onward c f (written f s o m)
  onward = record { target = same_target; kept = stays_done }

  done_here : Done c (written f s o m) s o
  done_here = to_be (written f s o m) ∙ sym (written_here f s o m)

  -- in the second pass, what is there lies within what is to be
  inside : Begun Filling c f → Inside f (changed c f)
  inside begun a b e = sym (begun a b (rw e refl)) ∙ e

  room : (limit : ℕ) (pass : Pass) → s < 64 → o < 64 → Ready pass c limit f → writes pass m ≡ true → has_room limit f s o m ≡ true
  room limit Emptying hs ho ready w = room_none limit f s o m (none_in m w)
  room limit Filling hs ho ready w =
      ⊎_elim
      (λ (held : 0 < f s o). room_over limit f s o m held)
      (λ (empty : f s o ≤ 0).
      let full : 0 < changed c f s o = omega (arith, to_be f, some_in m w) in
      let less : count f < count (changed c f) = count_less f (changed c f) s o hs ho (inside ready.begun) (omega arith) full in
      room_below limit f s o m (omega (arith, ready.within)))
      (cases_lt 0 (f s o))

  -- So the write is taken, and it brings the change on.
  pub wrote : (limit : ℕ) (pass : Pass) → s < 64 → o < 64 → Ready pass c limit f → writes pass m ≡ true → {X : Type 0} (r : Result X Reason) (new : Matrix)
      → refused_by r ≡ lowest (write_rules limit f s o m)
      → is_ok r ≡ takes limit f s o m
      → new ≡ unless (refused_by r) f (written f s o m)
      → (is_ok r ≡ true) × Onward c f new × Done c new s o
  wrote limit pass hs ho ready w r new answer taken after =
      let free = decided limit f s o m hs ho true (room limit pass hs ho ready w) in
      let put : new ≡ written f s o m = after ∙ ap (λ rule. unless rule f (written f s o m)) (answer ∙ free.0) in
      (taken ∙ free.1, subst (Onward c f) (sym put) onward, subst (λ n. Done c n s o) (sym put) done_here)

-- After both passes every cell is as it is to be.
module _ (c : Change) (f g h : Matrix) (first : Onward c f g) (second : Onward c g h)
    (emptied : (s : ℕ) → s < 64 → (o : ℕ) → o < 64 → Settled Emptying c g s o)
    (filled : (s : ℕ) → s < 64 → (o : ℕ) → o < 64 → Settled Filling c h s o)
    (of_names : (s o : ℕ) → (is_name s && is_name o) ≡ false → h s o ≡ 0) where
  done_named : (s o : ℕ) → s < 64 → o < 64 → Done c h s o
  done_named s o hs ho =
      ⊎_elim
      (λ (more : 0 < changed c h s o). filled s hs o ho (lt-ltb 0 (changed c h s o) more))
      (λ (none : changed c h s o ≤ 0).
      let now : changed c g s o ≡ 0 = ap (λ t. t s o) (sym second.target) ∙ omega arith in
      second.kept s o (emptied s hs o ho (rw now refl)))
      (cases_lt 0 (changed c h s o))

  all_done : (s o : ℕ) → Done c h s o
  all_done s o =
      ⊎_elim
      (λ (hs : s < 64).
      ⊎_elim
      (λ (ho : o < 64). done_named s o hs ho)
      (λ (large : 64 ≤ o). outside c h s o (inr large) (of_names s o (and_right (is_name s) (is_name o) (le-ltb o 64 large))))
      (cases_lt o 64))
      (λ (large : 64 ≤ s). outside c h s o (inl large) (of_names s o (rw (le-ltb s 64 large) refl)))
      (cases_lt s 64)

  pub made : h ≡ changed c f
  made = fun_ext (λ s. fun_ext (λ o. sym (all_done s o))) ∙ (second.target ∙ first.target)
