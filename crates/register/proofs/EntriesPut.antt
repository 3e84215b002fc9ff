-- How the entries of a request's names are put back, one after another.
use Rattle.std.proofs.Common.{◌≡◌, ℕ, ◌+◌, ◌<◌, List, length, Some, None, Option, subst, sym, refl, ⊎_elim, arith}
use mathlib.Core.Path.{fun_ext}
use Rattle.std.proofs.lemmas.Bool.{cases_eq, eq-eqb, ne_eqb, eqb-false}
use Rattle.model.specs.declared.stamp.Stamp.{Stamp}
use Rattle.protection.specs.Commands.{name_at}
use Rattle.protection.specs.Excerpts.{parameter_of, entry_back, entries_back, Distinct}
use Rattle.protection.specs.Operations.{with_entry}
use Rattle.protection.proofs.Naming.{named, unnamed}

-- The entries of the first k names are put back, and all others are as they were.
pub record PutSoFar (names : List ℕ) (back old : ℕ → Option Stamp) (k : ℕ) (entries : ℕ → Option Stamp) : Type 0 where
  pub put : (i : ℕ) → i < k → entries (name_at names i) ≡ back i
  pub kept : (n : ℕ) → ((i : ℕ) → i < k → name_at names i ≡ n → ⊥) → entries n ≡ old n

module _ (names : List ℕ) (back old : ℕ → Option Stamp) where
  -- one name more, which is none of those before
  pub one_put : (k : ℕ) (entries : ℕ → Option Stamp) → Distinct names → k < length names → PutSoFar names back old k entries → PutSoFar names back old (k + 1) (with_entry entries (name_at names k) (back k))
  one_put k entries distinct inside before = record {
    put = λ i lt.
        ⊎_elim
        (λ (same : i ≡ k). rw (same, eq-eqb (name_at names k) (name_at names k) refl) refl)
        (λ (other : i ≡ k → ⊥).
        let apart = ne_eqb (name_at names i) (name_at names k) (λ e. other (distinct i k (omega arith) inside e)) in
        rw apart (before.put i (omega (arith, other))))
        (cases_eq i k);
    kept = λ n other.
        let apart = ne_eqb n (name_at names k) (λ e. other k (omega arith) (sym e)) in
        rw apart (before.kept n (λ i lt. other i (omega arith)));
  }

  put_at : (n : ℕ) (entries : ℕ → Option Stamp) → PutSoFar names back old (length names) entries → (o : Option ℕ) → parameter_of names n ≡ o → entries n ≡ entry_back back o (old n)
  put_at n entries all (Some i) e =
      let found = named names n i e in
      subst (λ m. entries m ≡ back i) found.1 (all.put i found.0)
  put_at n entries all None e = all.kept n (λ i lt same. eqb-false n (name_at names i) (unnamed names n i e lt) (sym same))

  pub all_put : (entries : ℕ → Option Stamp) → PutSoFar names back old (length names) entries → entries ≡ entries_back names back old
  all_put entries all = fun_ext (λ n. put_at n entries all (parameter_of names n) refl)
