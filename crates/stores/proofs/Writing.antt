-- A matrix with one cell written, place by place.
use Rattle.std.proofs.Common.{◌≡◌, ℕ, ◌<◌, ◌≤◌, ◌&&◌, eqb, ltb, sym, refl, ◌∙◌, ⊎_elim, arith}
use mathlib.Core.Path.{fun_ext}
use Rattle.std.proofs.lemmas.Bool.{cases_eq, cases_lt, eq-eqb, ne_eqb, lt-ltb, le-ltb, and_right, cond_both}
use Rattle.stores.specs.Matrices.{Matrix, on_names, written}

pub written_here : (f : Matrix) (s o m : ℕ) → written f s o m s o ≡ m
written_here f s o m = rw (eq-eqb s s refl, eq-eqb o o refl) refl

pub written_row : (f : Matrix) (s o m a b : ℕ) → (a ≡ s → ⊥) → written f s o m a b ≡ f a b
written_row f s o m a b ne = rw (ne_eqb a s ne) refl

pub written_column : (f : Matrix) (s o m a b : ℕ) → (b ≡ o → ⊥) → written f s o m a b ≡ f a b
written_column f s o m a b ne = rw (and_right (eqb a s) (eqb b o) (ne_eqb b o ne)) refl

-- what is there already
pub written_same : (f : Matrix) (s o m : ℕ) → f s o ≡ m → written f s o m ≡ f
written_same f s o m here =
    fun_ext (λ a. fun_ext (λ b.
    ⊎_elim
    (λ (row : a ≡ s).
    ⊎_elim
    (λ (column : b ≡ o). rw (row, column) (written_here f s o m ∙ sym here))
    (λ (other : b ≡ o → ⊥). written_column f s o m a b other)
    (cases_eq b o))
    (λ (other : a ≡ s → ⊥). written_row f s o m a b other)
    (cases_eq a s)))

pub no_row : (f : Matrix) (a b : ℕ) → 64 ≤ a → on_names f a b ≡ 0
no_row f a b h = rw (le-ltb a 64 h) refl

pub no_column : (f : Matrix) (a b : ℕ) → 64 ≤ b → on_names f a b ≡ 0
no_column f a b h = rw (and_right (ltb a 64) (ltb b 64) (le-ltb b 64 h)) refl

pub at_names : (f : Matrix) (a b : ℕ) → a < 64 → b < 64 → on_names f a b ≡ f a b
at_names f a b ha hb = rw (lt-ltb a 64 ha, lt-ltb b 64 hb) refl

pub empty_named : (f : Matrix) (a b : ℕ) → f a b ≡ 0 → on_names f a b ≡ 0
empty_named f a b e = cond_both (ltb a 64 && ltb b 64) (f a b) 0 (λ m. m ≡ 0) (λ _. e) (λ _. refl)

-- Two matrices that agree on all names but have m in one cell of the second: the second is the first with m written.
module _ (f g : Matrix) (s o m : ℕ) (hs : s < 64) (ho : o < 64) (here : g s o ≡ m)
    (beside : (a b : ℕ) → a < 64 → b < 64 → ((a ≡ s) × (b ≡ o) → ⊥) → g a b ≡ f a b) where
  named : (a b : ℕ) → a < 64 → b < 64 → on_names g a b ≡ written (on_names f) s o m a b
  named a b ha hb =
      ⊎_elim
      (λ (row : a ≡ s).
      ⊎_elim
      (λ (column : b ≡ o).
      rw (row, column) (at_names g s o hs ho ∙ (here ∙ sym (written_here (on_names f) s o m))))
      (λ (other : b ≡ o → ⊥).
      at_names g a b ha hb ∙ (beside a b ha hb (λ both. other both.1) ∙ (sym (at_names f a b ha hb) ∙ sym (written_column (on_names f) s o m a b other))))
      (cases_eq b o))
      (λ (other : a ≡ s → ⊥).
      at_names g a b ha hb ∙ (beside a b ha hb (λ both. other both.0) ∙ (sym (at_names f a b ha hb) ∙ sym (written_row (on_names f) s o m a b other))))
      (cases_eq a s)

  at_all : (a b : ℕ) → on_names g a b ≡ written (on_names f) s o m a b
  at_all a b =
      ⊎_elim
      (λ (ha : a < 64).
      ⊎_elim
      (λ (hb : b < 64). named a b ha hb)
      (λ (large : 64 ≤ b).
      no_column g a b large ∙ (sym (no_column f a b large) ∙ sym (written_column (on_names f) s o m a b (λ e. omega (arith, e)))))
      (cases_lt b 64))
      (λ (large : 64 ≤ a).
      no_row g a b large ∙ (sym (no_row f a b large) ∙ sym (written_row (on_names f) s o m a b (λ e. omega (arith, e)))))
      (cases_lt a 64)

  pub written_by : on_names g ≡ written (on_names f) s o m
  written_by = fun_ext (λ a. fun_ext (λ b. at_all a b))
