-- Whether a certificate is closed under a command, as a test that computes: all castings that pass are tried.
use Rattle.std.proofs.Common.{◌≡◌, ℕ, zero, suc, ◌<◌, ◌≤◌, Bool, true, false, ◌&&◌, List, [], ◌∷◌, map, filter, Some, None, Option, slice_get, unwrap_or, sym, ap, refl, subst, ◌∙◌, ⊎_elim, arith}
use mathlib.Core.Path.{fun_ext}
use Rattle.std.specs.List.{list_all}
use Rattle.std.specs.Option.{option_map}
use Rattle.std.proofs.lemmas.Bool.{cases_lt, and_parts, and_from}
use Rattle.std.proofs.lemmas.Option.{none-some, slice_get-map}
use Rattle.model.specs.declared.stamp.Stamp.{Stamp}
use Rattle.model.specs.Masks.{Within}
use Rattle.scheme.specs.Commands.{Command}
use Rattle.protection.specs.Commands.{passes}
use Rattle.protection.specs.Excerpts.{itself, renewed}
use Rattle.protection.specs.States.{Protection}
use Rattle.protection.proofs.Naming.{placed_itself}
use Rattle.protection.proofs.Outside.{entry_kept}
use Rattle.protection.proofs.Places.{Shaped, run_entry}
use Rattle.certificates.specs.Certificates.{Certificate, lists, allows}
use Rattle.certificates.proofs.Listed.{there_listed}
use Rattle.castings.proofs.Binding.{uncast, uncast_none}
use Rattle.castings.specs.Castings.{Casting, is_cast, suits, cast_state}
use Rattle.castings.specs.Closure.{Keeps, Closed, outcome_of}
use Rattle.checker.proofs.Picking.{of_three, three_at, picked, of_listed, all_listed, within, within_so, stamp_kept, stamp_so}

abbrev cell_kept : Certificate → (row column : Option Stamp) → (mask : ℕ) → Bool
cell_kept c None column mask = true
cell_kept c (Some s) None mask = true
cell_kept c (Some s) (Some t) mask = within mask (allows c s t)

abbrev move_kept : Certificate → (renewed : Bool) → (old new : Option Stamp) → (w : Stamp) → Bool
move_kept c true old new w = true
move_kept c false None new w = true
move_kept c false (Some s) None w = true
move_kept c false (Some s) (Some t) w = within (allows c s w) (allows c t w) && within (allows c w s) (allows c w t)

abbrev keeps_of : Certificate → (renewed : ℕ → Bool) → (before after : Protection) → Bool
keeps_of c renewed before after =
    of_three (λ i. stamp_kept c (after.entry i))
    && (of_three (λ i. of_three (λ j. cell_kept c (after.entry i) (after.entry j) (after.cells i j)))
    && of_three (λ i. all_listed c (move_kept c (renewed i) (before.entry i) (after.entry i))))

cell_so : (c : Certificate) (row column : Option Stamp) (mask : ℕ) (s t : Stamp) → cell_kept c row column mask ≡ true → row ≡ Some s → column ≡ Some t → Within mask (allows c s t)
cell_so c row column mask s t h rows columns =
    within_so mask (allows c s t) ((λ i. cell_kept c (sym rows i) (sym columns i) mask) ∙ h)

move_so : (c : Certificate) (renewed : Bool) (old new : Option Stamp) (s t w : Stamp) → move_kept c renewed old new w ≡ true → renewed ≡ false → old ≡ Some s → new ≡ Some t → Within (allows c s w) (allows c t w) × Within (allows c w s) (allows c w t)
move_so c renewed old new s t w h kept from to =
    let both : (within (allows c s w) (allows c t w) && within (allows c w s) (allows c w t)) ≡ true = (λ i. move_kept c (sym kept i) (sym from i) (sym to i) w) ∙ h in
    let parts = and_parts (within (allows c s w) (allows c t w)) (within (allows c w s) (allows c w t)) both in
    (within_so (allows c s w) (allows c t w) parts.0, within_so (allows c w s) (allows c w t) parts.1)

module _ (c : Certificate) (renewed : ℕ → Bool) (before after : Protection) (h : keeps_of c renewed before after ≡ true) (none : (i : ℕ) → 3 ≤ i → after.entry i ≡ None) where
  inside : (i : ℕ) (s : Stamp) → after.entry i ≡ Some s → i < 3
  inside i s stands =
      ⊎_elim
      (λ (lt : i < 3). lt)
      (λ (past : 3 ≤ i). absurd (none-some s (sym (none i past) ∙ stands)))
      (cases_lt i 3)

  abbrev stamps_kept : Bool
  stamps_kept = of_three (λ i. stamp_kept c (after.entry i))

  abbrev cells_kept : Bool
  cells_kept = of_three (λ i. of_three (λ j. cell_kept c (after.entry i) (after.entry j) (after.cells i j)))

  abbrev moves_kept : Bool
  moves_kept = of_three (λ i. all_listed c (move_kept c (renewed i) (before.entry i) (after.entry i)))

  on_listed : (i : ℕ) (s t w : Stamp) → renewed i ≡ false → before.entry i ≡ Some s → after.entry i ≡ Some t → lists c w ≡ true → Within (allows c s w) (allows c t w) × Within (allows c w s) (allows c w t)
  on_listed i s t w kept from to listed =
      let all = (and_parts cells_kept moves_kept (and_parts stamps_kept (cells_kept && moves_kept) h).1).1 in
      let each = three_at (λ i. all_listed c (move_kept c (renewed i) (before.entry i) (after.entry i))) all i (inside i t to) in
      move_so c (renewed i) (before.entry i) (after.entry i) s t w (of_listed c (move_kept c (renewed i) (before.entry i) (after.entry i)) w each listed) kept from to

  keeps_so : Keeps c renewed before after
  keeps_so = record {
    stamps = λ i s stands. stamp_so c (after.entry i) s (three_at (λ i. stamp_kept c (after.entry i)) (and_parts stamps_kept (cells_kept && moves_kept) h).0 i (inside i s stands)) stands;
    cells = λ i j s t row column.
        let all = (and_parts cells_kept moves_kept (and_parts stamps_kept (cells_kept && moves_kept) h).1).0 in
        let each = three_at (λ i. of_three (λ j. cell_kept c (after.entry i) (after.entry j) (after.cells i j))) all i (inside i s row) in
        cell_so c (after.entry i) (after.entry j) (after.cells i j) s t (three_at (λ j. cell_kept c (after.entry i) (after.entry j) (after.cells i j)) each j (inside j t column)) row column;
    rows = λ i s t w moves listed. (on_listed i s t w moves.kept moves.from moves.to listed).0;
    columns = λ i s t w moves listed. (on_listed i s t w moves.kept moves.from moves.to listed).1;
  }

-- ---- all castings of a command

-- what may be given to three parameters
abbrev three_given : (a b d : Option Stamp) → Casting
three_given a b d i = unwrap_or (slice_get (a ∷ b ∷ d ∷ []) i) None

abbrev choices : Certificate → List (Option Stamp)
choices c = None ∷ map (λ s. Some s) c.stamps

-- what is kept of each that passes
module _ (covers : (k a b : ℕ) → Bool) (c : Certificate) (m : Command) where
  abbrev passed : Casting → Bool
  passed σ = list_all (passes covers (cast_state c σ)) m.tests

  abbrev kept_of : Casting → Bool
  kept_of σ = keeps_of c (renewed m.steps) (cast_state c σ) (outcome_of c m σ)

  abbrev third : (a b : Option Stamp) → Bool
  third a b = list_all (λ d. kept_of (three_given a b d)) (filter (λ d. suits c m 2 d && passed (three_given a b d)) (choices c))

  abbrev second : (a : Option Stamp) → Bool
  second a = list_all (λ b. third a b) (filter (suits c m 1) (choices c))

  abbrev pub closed_of : Bool
  closed_of = list_all second (filter (suits c m 0) (choices c))

  chosen : (f g : Option Stamp → Bool) (i : ℕ) (e : Option Stamp) → suits c m i e ≡ true → g e ≡ true → list_all f (filter g (choices c)) ≡ true → f e ≡ true
  chosen f g i None suited is all = picked f g (choices c) 0 None refl is all
  chosen f g i (Some s) suited is all =
      let listed = (and_parts (lists c s) _ (and_parts (is_cast m i) _ suited).1).0 in
      let at = there_listed c s listed in
      picked f g (choices c) (suc at.0) (Some s) (slice_get-map (λ s. Some s) c.stamps at.0 ∙ ap (option_map (λ s. Some s)) at.1) is all

  module _ (few : m.params ≤ 3) (shaped : Shaped 3 m.steps) where
    given : (σ : Casting) → ((i : ℕ) → 3 ≤ i → σ i ≡ None) → (i : ℕ) → three_given (σ 0) (σ 1) (σ 2) i ≡ σ i
    given σ none zero = refl
    given σ none (suc zero) = refl
    given σ none (suc (suc zero)) = refl
    given σ none (suc (suc (suc i))) = sym (none (suc (suc (suc i))) (omega arith))

    no_outcome : (σ : Casting) → ((i : ℕ) → 3 ≤ i → σ i ≡ None) → (i : ℕ) → 3 ≤ i → (outcome_of c m σ).entry i ≡ None
    no_outcome σ none i past =
        run_entry m.cards 3 itself itself (placed_itself 3) m.steps (cast_state c σ) i shaped
        ∙ entry_kept m.cards 3 m.steps i (σ i) past shaped
        ∙ none i past

    pub closed_by : closed_of ≡ true → Closed covers c m
    closed_by all σ casts passing =
        let none : (i : ℕ) → 3 ≤ i → σ i ≡ None = λ i past. uncast_none c m few i (σ i) (uncast c m few i past) (casts i) in
        let same : three_given (σ 0) (σ 1) (σ 2) ≡ σ = fun_ext (given σ none) in
        let at_0 = chosen second (suits c m 0) 0 (σ 0) (casts 0) (casts 0) all in
        let at_1 = chosen (third (σ 0)) (suits c m 1) 1 (σ 1) (casts 1) (casts 1) at_0 in
        let passing_too : passed (three_given (σ 0) (σ 1) (σ 2)) ≡ true = subst (λ τ. passed τ ≡ true) (sym same) passing in
        let at_2 =
        chosen (λ d. kept_of (three_given (σ 0) (σ 1) d)) (λ d. suits c m 2 d && passed (three_given (σ 0) (σ 1) d)) 2 (σ 2) (casts 2)
        (and_from (suits c m 2 (σ 2)) (passed (three_given (σ 0) (σ 1) (σ 2))) (casts 2) passing_too)
        at_1 in
        keeps_so c (renewed m.steps) (cast_state c σ) (outcome_of c m σ) (subst (λ τ. kept_of τ ≡ true) same at_2) (no_outcome σ none)
