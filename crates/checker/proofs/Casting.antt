-- A request casts its command: each parameter gets the stamp of the entry under the name that is put for it.
use Rattle.std.proofs.Common.{◌≡◌, ℕ, ◌<◌, Bool, true, false, cond, not, ◌&&◌, ◌||◌, ltb, List, Some, None, Option, is_some, refl, ap}
use Rattle.std.specs.List.{list_any}
use Rattle.std.proofs.lemmas.Bool.{cond_both, and_parts, and_from, ltb-true, lt-ltb, not-true, not-false}
use Rattle.model.specs.declared.stamp.Stamp.{Stamp}
use Rattle.model.specs.Kinds.{subject_kind}
use Rattle.model.specs.Masks.{has}
use Rattle.scheme.specs.Commands.{Command}
use Rattle.scheme.specs.Steps.{creates_in_step}
use Rattle.protection.specs.Commands.{name_at, seen}
use Rattle.protection.specs.Requests.{first_parameter, standing_wrong, card_wrong}
use Rattle.protection.specs.States.{Protection, is_subject}
use Rattle.protection.proofs.Requests.{clear_of}
use Rattle.certificates.specs.Certificates.{Certificate, lists}
use Rattle.castings.specs.Castings.{Casting, Casts, is_cast, suits}
use Rattle.checker.specs.Containing.{Contains}

abbrev pub cast_by : Command → (names : List ℕ) → Protection → Casting
cast_by m names p i = cond (is_cast m i) (p.entry (name_at names i)) None

-- what is created does not stand yet, so that nothing is cast is right
stands_as_cast : (inside created : Bool) (e : Option Stamp) → inside ≡ true → cond created (is_some e) (not (is_some e)) ≡ false → cond (inside && not created) e None ≡ e
stands_as_cast true true None is right = refl
stands_as_cast true true (Some s) is right = cc
stands_as_cast true false e is right = refl
stands_as_cast false created e is right = cc

if_so : (a b : Bool) → (a ≡ true → b ≡ true) → (not a || b) ≡ true
if_so true b h = h refl
if_so false b h = refl

suits_none : (c : Certificate) (m : Command) (i : ℕ) → is_cast m i ≡ false → suits c m i None ≡ true
suits_none c m i uncast = ap not uncast

suits_some : (c : Certificate) (m : Command) (i : ℕ) (e : Option Stamp) → is_cast m i ≡ true → is_some e ≡ true → ((s : Stamp) → e ≡ Some s → lists c s ≡ true) → (has m.cards i ≡ true → is_subject e ≡ true) → suits c m i e ≡ true
suits_some c m i None is there listed card = cc
suits_some c m i (Some s) is there listed card =
    and_from (is_cast m i) (lists c s && (not (has m.cards i) || subject_kind s.kind)) is
    (and_from (lists c s) (not (has m.cards i) || subject_kind s.kind) (listed s refl) (if_so (has m.cards i) (subject_kind s.kind) card))

module _ (c : Certificate) (m : Command) (names : List ℕ) (p : Protection) (contains : Contains c p) (standing : first_parameter m.params (standing_wrong m (seen (name_at names) p)) ≡ None) (cards : first_parameter m.params (card_wrong m (seen (name_at names) p)) ≡ None) where
  pub cast_at : (i : ℕ) → i < m.params → cast_by m names p i ≡ p.entry (name_at names i)
  cast_at i lt =
      stands_as_cast (ltb i m.params) (list_any (creates_in_step i) m.steps) (p.entry (name_at names i)) (lt-ltb i m.params lt)
      (clear_of (standing_wrong m (seen (name_at names) p)) m.params standing i lt)

  pub casts : Casts c m (cast_by m names p)
  casts i =
      cond_both (is_cast m i) (p.entry (name_at names i)) None
      (λ e. suits c m i e ≡ true)
      (λ is.
      let parts = and_parts (ltb i m.params) (not (list_any (creates_in_step i) m.steps)) is in
      let lt = ltb-true i m.params parts.0 in
      let uncreated = not-true (list_any (creates_in_step i) m.steps) parts.1 in
      suits_some c m i (p.entry (name_at names i)) is
      (not-false (is_some (p.entry (name_at names i))) (rw uncreated at (clear_of (standing_wrong m (seen (name_at names) p)) m.params standing i lt)))
      (contains.stamps (name_at names i))
      (λ declared. not-false (is_subject (p.entry (name_at names i))) (rw (uncreated, declared) at (clear_of (card_wrong m (seen (name_at names) p)) m.params cards i lt))))
      (suits_none c m i)
