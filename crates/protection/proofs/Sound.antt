-- What each primitive operation needs for a sound state to stay sound.
use Rattle.std.proofs.Common.{◌≡◌, ℕ, ◌<◌, Bool, true, false, ◌||◌, eqb, Some, None, Option, is_some, refl, ◌∙◌, ⊎_elim, arith}
use Rattle.std.specs.Option.{option_map}
use Rattle.std.proofs.lemmas.Bool.{cases_eq, cases_Bool, and_left, and_right, or_parts, eq-eqb, ne_eqb, false≢true, both_ways}
use Rattle.model.specs.declared.kind.Kind.{Kind}
use Rattle.model.specs.declared.stamp.Stamp.{Stamp}
use Rattle.model.proofs.Rights.{without_le}
use Rattle.model.specs.Masks.{with_right, without_right}
use Rattle.stores.specs.Matrices.{Matrix, written}
use Rattle.protection.specs.Operations.{with_entry, without, null_stamp, with_attribute, enter, delete, set, create, destroy}
use Rattle.protection.specs.Sound.{Sound}
use Rattle.protection.specs.States.{Protection, nothing, stands, is_subject}

pub subject_stands : (entry : Option Stamp) → is_subject entry ≡ true → is_some entry ≡ true
subject_stands None h = absurd (false≢true h)
subject_stands (Some stamp) h = refl

pub sound_nothing : Sound nothing
sound_nothing s o held = absurd (omega arith)

-- A mask goes into a cell whose row is a subject and whose column stands; an empty one goes into any.
pub sound_written :
    (s o m : ℕ) (p : Protection)
    → (0 < m → (is_subject (p.entry s) ≡ true) × (stands p o ≡ true))
    → Sound p
    → Sound (record { entry = p.entry; cells = written p.cells s o m })
sound_written s o m p ends sound a b held =
    ⊎_elim
    (λ (row : a ≡ s).
    ⊎_elim
    (λ (column : b ≡ o).
    let both = ends (rw (row, column, eq-eqb s s refl, eq-eqb o o refl) at held) in
    (rw row both.0, rw column both.1))
    (λ (apart : b ≡ o → ⊥). sound a b (rw (and_right (eqb a s) (eqb b o) (ne_eqb b o apart)) at held))
    (cases_eq b o))
    (λ (apart : a ≡ s → ⊥). sound a b (rw (and_left (eqb a s) (eqb b o) (ne_eqb a s apart)) at held))
    (cases_eq a s)

pub sound_enter : (r s o : ℕ) (p : Protection) → is_subject (p.entry s) ≡ true → stands p o ≡ true → Sound p → Sound (enter r s o p)
sound_enter r s o p subject column sound = sound_written s o (with_right (p.cells s o) r) p (λ held. (subject, column)) sound

pub sound_delete : (r s o : ℕ) (p : Protection) → Sound p → Sound (delete r s o p)
sound_delete r s o p sound =
    sound_written s o (without_right (p.cells s o) r) p
    (λ held. sound s o (omega (arith, without_le (p.cells s o) r)))
    sound

-- What fills no cell, and keeps what the entries at a cell that is not empty are, leaves a state sound.
sound_less :
    (p q : Protection)
    → ((s o : ℕ) → 0 < q.cells s o → (0 < p.cells s o) × ((is_subject (q.entry s) ≡ is_subject (p.entry s)) × (stands q o ≡ stands p o)))
    → Sound p
    → Sound q
sound_less p q less sound s o held =
    let was = less s o held in
    let both = sound s o was.0 in
    (was.1.0 ∙ both.0, was.1.1 ∙ both.1)

-- An attribute that is set changes nothing that `look` sees of an entry, where it sees no attributes.
pub set_unseen :
    (look : Option Stamp → Bool)
    → ((k v : ℕ) (entry : Option Stamp) → look (option_map (with_attribute k v) entry) ≡ look entry)
    → (n k v : ℕ) (p : Protection) (x : ℕ) → look ((set n k v p).entry x) ≡ look (p.entry x)
set_unseen look unseen n k v p x =
    ⊎_elim
    (λ (here : x ≡ n). rw (here, eq-eqb n n refl) (unseen k v (p.entry n)))
    (λ (apart : x ≡ n → ⊥). rw (ne_eqb x n apart) refl)
    (cases_eq x n)

unseen_kind : (k v : ℕ) (entry : Option Stamp) → is_subject (option_map (with_attribute k v) entry) ≡ is_subject entry
unseen_kind k v None = refl
unseen_kind k v (Some stamp) = refl

unseen_presence : (k v : ℕ) (entry : Option Stamp) → is_some (option_map (with_attribute k v) entry) ≡ is_some entry
unseen_presence k v None = refl
unseen_presence k v (Some stamp) = refl

pub sound_set : (n k v : ℕ) (p : Protection) → Sound p → Sound (set n k v p)
sound_set n k v p sound =
    sound_less p (set n k v p)
    (λ s o held. (held, (set_unseen is_subject unseen_kind n k v p s, set_unseen is_some unseen_presence n k v p o)))
    sound

module _ (n : ℕ) (entry : Option Stamp) (p : Protection) where
  -- Whatever is put under a name, the state stays sound, where the row and the column of that name are empty then.
  sound_entry :
      (f : Matrix)
      → ((s o : ℕ) → 0 < f s o → (0 < p.cells s o) × ((eqb s n ≡ false) × (eqb o n ≡ false)))
      → Sound p
      → Sound (record { entry = with_entry p.entry n entry; cells = f })
  sound_entry f empty sound =
      sound_less p (record { entry = with_entry p.entry n entry; cells = f })
      (λ s o held.
      let was = empty s o held in
      (was.0, (rw was.1.0 refl, rw was.1.1 refl)))
      sound

  sound_emptied : Sound p → Sound (record { entry = with_entry p.entry n entry; cells = without p.cells n })
  sound_emptied sound =
      sound_entry (without p.cells n)
      (λ s o held.
      ⊎_elim
      (λ (gone : (eqb s n || eqb o n) ≡ true). absurd (let none : 0 < 0 = rw gone at held in omega arith))
      (λ (left : (eqb s n || eqb o n) ≡ false). (rw left at held, or_parts (eqb s n) (eqb o n) left))
      (cases_Bool (eqb s n || eqb o n)))
      sound

  stands_beside : stands p n ≡ false → (x : ℕ) → stands p x ≡ true → eqb x n ≡ false
  stands_beside free x there = ne_eqb x n (λ same. both_ways (stands p n) free (rw same at there))

  -- Where no entry stood under a name, its row and its column are empty, so that one may be put there.
  pub sound_put : stands p n ≡ false → Sound p → Sound (record { entry = with_entry p.entry n entry; cells = p.cells })
  sound_put free sound =
      sound_entry p.cells
      (λ s o held.
      let both = sound s o held in
      (held, (stands_beside free s (subject_stands (p.entry s) both.0), stands_beside free o both.1)))
      sound

pub sound_create : (kind : Kind) (n : ℕ) (p : Protection) → Sound p → Sound (create kind n p)
sound_create kind n p sound = sound_emptied n (Some (null_stamp kind)) p sound

pub sound_destroy : (n : ℕ) (p : Protection) → Sound p → Sound (destroy n p)
sound_destroy n p sound = sound_emptied n None p sound
