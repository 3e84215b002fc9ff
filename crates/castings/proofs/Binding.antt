-- Castings that agree on the parameters that are bound.
use Rattle.std.proofs.Common.{◌≡◌, ◌≢◌, ℕ, ◌+◌, ◌<◌, ◌≤◌, Bool, true, false, not, ◌&&◌, ◌||◌, ltb, List, [], ◌∷◌, length, set, Some, None, Option, refl, sym, ap, ◌∙◌, subst, ⊎_elim, arith, get_or-set_same, get_or-set_other}
use Rattle.std.specs.List.{list_all}
use Rattle.std.proofs.lemmas.Bool.{cases_lt, cases_eq, cases_Bool, both_ways, and_parts, and_from, ltb-true, le-ltb, not-true, or_right}
use Rattle.std.proofs.lemmas.Option.{unwrap_or-slice_get}
use mathlib.Core.Path.{fun_ext}
use Rattle.model.specs.declared.stamp.Stamp.{Stamp}
use Rattle.model.specs.Kinds.{subject_kind}
use Rattle.model.specs.Masks.{has}
use Rattle.scheme.specs.declared.test.Test.{Test}
use Rattle.scheme.specs.declared.test.Test.TheVariants.{Holds, Is, IsNot, Covers}
use Rattle.scheme.specs.Commands.{Command, test_fits}
use Rattle.scheme.specs.Tests.{test_shaped, test_row_declared}
use Rattle.protection.specs.Commands.{passes}
use Rattle.protection.specs.States.{Protection}
use Rattle.protection.proofs.Shaping.{named_of_more}
use Rattle.certificates.specs.Certificates.{Certificate, Apart, lists, stamp_at}
use Rattle.castings.specs.declared.escape.Escape.{Escape}
use Rattle.castings.specs.Binding.{named_below, ReadyPass, SuitsBelow, Agrees, KeepsBy, ClosedFrom, ClosedWith, BreachBy, ShowsBreach}
use Rattle.castings.specs.Castings.{Casting, Casts, is_cast, suits, cast_state, Passes}
use Rattle.castings.specs.Escapes.{IsEscape}
use Rattle.castings.specs.Numbers.{stamps_by}
use Rattle.castings.specs.Places.{ClosedAt, first_at, rest_of}
use Rattle.castings.proofs.Listing.{beyond_numbers, listed_at}
use Rattle.castings.proofs.Coming.{comes_on, not_before}

-- ---- one parameter more is bound

module _ (c : Certificate) (numbers : List (Option ℕ)) (d : ℕ) (number : Option ℕ) where
  abbrev then : Casting
  then = stamps_by c (set numbers d number)

  bound_here : d < length numbers → then d ≡ stamp_at c number
  bound_here low =
      ap (stamp_at c) (unwrap_or-slice_get (set numbers d number) d None ∙ get_or-set_same numbers d number None low)

  bound_there : (i : ℕ) → i ≢ d → then i ≡ stamps_by c numbers i
  bound_there i other =
      ap (stamp_at c)
      (unwrap_or-slice_get (set numbers d number) i None ∙ get_or-set_other numbers d i number None other ∙ sym (unwrap_or-slice_get numbers i None))

  pub agrees_more : (τ : Casting) → d < length numbers → Agrees d (stamps_by c numbers) τ → τ d ≡ stamp_at c number → Agrees (d + 1) then τ
  agrees_more τ low agrees here i lt =
      ⊎_elim
      (λ (same : i ≡ d). ap τ same ∙ here ∙ sym (bound_here low) ∙ ap then (sym same))
      (λ (other : i ≢ d). agrees i (omega (arith, lt, other)) ∙ sym (bound_there i other))
      (cases_eq i d)

  pub suits_more : (m : Command) → d < length numbers → SuitsBelow c m (stamps_by c numbers) d → suits c m d (stamp_at c number) ≡ true → SuitsBelow c m then (d + 1)
  suits_more m low below here i lt =
      ⊎_elim
      (λ (same : i ≡ d). ap (λ k. suits c m k (then k)) same ∙ ap (suits c m d) (bound_here low) ∙ here)
      (λ (other : i ≢ d). ap (suits c m i) (bound_there i other) ∙ below i (omega (arith, lt, other)))
      (cases_eq i d)

-- ---- tests

module _ (covers : (k a b : ℕ) → Bool) (c : Certificate) (d : ℕ) (σ τ : Casting) (agrees : Agrees d σ τ) where
  -- a test of which all that it names is bound says the same of both
  same_test : (t : Test) → named_below d t ≡ true → passes covers (cast_state c τ) t ≡ passes covers (cast_state c σ) t
  same_test (Holds r i j) named =
      let ends = and_parts (ltb i d) (ltb j d) named in
      rw (agrees i (ltb-true i d ends.0), agrees j (ltb-true j d ends.1)) refl
  same_test (Is i k v) named = rw (agrees i (ltb-true i d named)) refl
  same_test (IsNot i k v) named = rw (agrees i (ltb-true i d named)) refl
  same_test (Covers i k j) named =
      let ends = and_parts (ltb i d) (ltb j d) named in
      rw (agrees i (ltb-true i d ends.0), agrees j (ltb-true j d ends.1)) refl

  ready_test : (t : Test) → passes covers (cast_state c τ) t ≡ true → (not (named_below d t) || passes covers (cast_state c σ) t) ≡ true
  ready_test t pass =
      ⊎_elim
      (λ (named : named_below d t ≡ true). or_right (not (named_below d t)) (passes covers (cast_state c σ) t) (sym (same_test t named) ∙ pass))
      (λ (unnamed : named_below d t ≡ false). rw unnamed refl)
      (cases_Bool (named_below d t))

  -- what passes of the second, passes of the first as far as it is bound
  pub ready_all : (tests : List Test) → list_all (passes covers (cast_state c τ)) tests ≡ true → list_all (λ t. not (named_below d t) || passes covers (cast_state c σ) t) tests ≡ true
  ready_all [] pass = refl
  ready_all (t ∷ tests) pass =
      let parts = and_parts (passes covers (cast_state c τ) t) (list_all (passes covers (cast_state c τ)) tests) pass in
      and_from (not (named_below d t) || passes covers (cast_state c σ) t) (list_all (λ t. not (named_below d t) || passes covers (cast_state c σ) t) tests)
      (ready_test t parts.0) (ready_all tests parts.1)

-- what was computed of the tests, said of the casting
pub tried : (covers : (k a b : ℕ) → Bool) (m : Command) (d : ℕ) (p seen : Protection) (tests : List Test) (result b : Bool) → result ≡ list_all (λ t. not (named_below d t) || passes covers p t) tests → tests ≡ m.tests → p ≡ seen → result ≡ b → list_all (λ t. not (named_below d t) || passes covers seen t) m.tests ≡ b
tried covers m d p seen tests result b is all same out =
    ap (λ q. list_all (λ t. not (named_below d t) || passes covers q t) m.tests) (sym same)
    ∙ ap (list_all (λ t. not (named_below d t) || passes covers p t)) (sym all)
    ∙ sym is
    ∙ out

-- every test of a command names only its parameters
named_all : (n d : ℕ) (t : Test) → n ≤ d → test_shaped n t ≡ true → named_below d t ≡ true
named_all n d (Holds r i j) more h =
    let parts = and_parts (ltb r 16) (ltb i n && ltb j n) h in
    let ends = and_parts (ltb i n) (ltb j n) parts.1 in
    and_from (ltb i d) (ltb j d) (named_of_more n d i more ends.0) (named_of_more n d j more ends.1)
named_all n d (Is i k v) more h = named_of_more n d i more (and_parts (ltb i n) (ltb k 4) h).0
named_all n d (IsNot i k v) more h = named_of_more n d i more (and_parts (ltb i n) (ltb k 4) h).0
named_all n d (Covers i k j) more h =
    let parts = and_parts (ltb i n) (ltb k 4 && ltb j n) h in
    let ends = and_parts (ltb k 4) (ltb j n) parts.1 in
    and_from (ltb i d) (ltb j d) (named_of_more n d i more parts.0) (named_of_more n d j more ends.1)

bound_test : (ready pass : Bool) → ready ≡ true → (not ready || pass) ≡ true → pass ≡ true
bound_test true pass is h = h
bound_test false pass is h = cc

module _ (covers : (k a b : ℕ) → Bool) (seen : Protection) (params cards d : ℕ) (more : params ≤ d) where
  -- so all are tried when all parameters are bound
  all_pass : (tests : List Test) → list_all (test_fits params cards) tests ≡ true → list_all (λ t. not (named_below d t) || passes covers seen t) tests ≡ true → list_all (passes covers seen) tests ≡ true
  all_pass [] fit ready = refl
  all_pass (t ∷ tests) fit ready =
      let fits = and_parts (test_fits params cards t) (list_all (test_fits params cards) tests) fit in
      let shaped = and_parts (test_shaped params t) (test_row_declared cards t) fits.0 in
      let parts = and_parts (not (named_below d t) || passes covers seen t) (list_all (λ t. not (named_below d t) || passes covers seen t) tests) ready in
      and_from (passes covers seen t) (list_all (passes covers seen) tests)
      (bound_test (named_below d t) (passes covers seen t) (named_all params d t more shaped.0) parts.0)
      (all_pass tests fits.1 parts.1)

-- ---- all parameters are bound

module _ (c : Certificate) (m : Command) (few : m.params ≤ 3) where
  pub uncast : (i : ℕ) → 3 ≤ i → is_cast m i ≡ false
  uncast i past = rw (le-ltb i m.params (omega (arith, few, past))) refl

  pub uncast_none : (i : ℕ) (o : Option Stamp) → is_cast m i ≡ false → suits c m i o ≡ true → o ≡ None
  uncast_none i None out h = refl
  uncast_none i (Some s) out h = absurd (both_ways (is_cast m i) out (and_parts (is_cast m i) (lists c s && (not (has m.cards i) || subject_kind s.kind)) h).0)

  module _ (numbers : List (Option ℕ)) (long : length numbers ≡ 3) (d : ℕ) (all : 3 ≤ d) where
    same_casting : (τ : Casting) → Casts c m τ → Agrees d (stamps_by c numbers) τ → stamps_by c numbers ≡ τ
    same_casting τ casts agrees = fun_ext at
      where
        at : (i : ℕ) → stamps_by c numbers i ≡ τ i
        at i =
            ⊎_elim
            (λ (low : i < d). sym (agrees i low))
            (λ (past : d ≤ i).
            let over : 3 ≤ i = omega (arith, all, past) in
            beyond_numbers c numbers i long over ∙ sym (uncast_none i (τ i) (uncast i over) (casts i)))
            (cases_lt i d)

    pub kept_from : (covers : (k a b : ℕ) → Bool) (place : List ℕ) → KeepsBy c m (stamps_by c numbers) → ClosedFrom covers c m (stamps_by c numbers) d place
    kept_from covers place kept τ casts pass agrees comes = subst (KeepsBy c m) (same_casting τ casts agrees) kept

    casts_all : SuitsBelow c m (stamps_by c numbers) d → Casts c m (stamps_by c numbers)
    casts_all below i =
        ⊎_elim
        (λ (low : i < d). below i low)
        (λ (past : d ≤ i).
        let over : 3 ≤ i = omega (arith, all, past) in
        ap (suits c m i) (beyond_numbers c numbers i long over) ∙ ap not (uncast i over))
        (cases_lt i d)

    pub escape_from : (covers : (k a b : ℕ) → Bool) (e : Escape) → list_all (test_fits m.params m.cards) m.tests ≡ true → SuitsBelow c m (stamps_by c numbers) d → ReadyPass covers m (cast_state c (stamps_by c numbers)) d → ShowsBreach c m (stamps_by c numbers) e → IsEscape covers c m e
    escape_from covers e fit below ready shows = record {
      casts = subst (Casts c m) (sym shows.same) (casts_all below);
      passes = subst (λ σ. Passes covers m (cast_state c σ)) (sym shows.same) (all_pass covers (cast_state c (stamps_by c numbers)) m.params m.cards d (omega (arith, few, all)) m.tests fit ready);
      breach = subst (λ σ. BreachBy c m σ e.breach) (sym shows.same) shows.breach;
    }

-- ---- one parameter is bound in every way

module _ (covers : (k a b : ℕ) → Bool) (c : Certificate) (m : Command) (σ : Casting) (d : ℕ) (place : List ℕ) where
  -- what is created is given nothing
  pub closed_by_none : is_cast m d ≡ false → ClosedWith covers c m σ d place None → ClosedFrom covers c m σ d place
  closed_by_none out closed τ casts pass agrees comes = closed τ casts pass agrees comes (none (τ d) (casts d))
    where
      none : (o : Option Stamp) → suits c m d o ≡ true → o ≡ None
      none None h = refl
      none (Some s) h = absurd (both_ways (is_cast m d) out (and_parts (is_cast m d) (lists c s && (not (has m.cards d) || subject_kind s.kind)) h).0)

  -- what is cast is given one of the listed stamps
  pub closed_by_all : is_cast m d ≡ true → (n : ℕ) → length c.stamps ≤ n → ((k : ℕ) → k < n → ClosedWith covers c m σ d place (stamp_at c (Some k))) → ClosedFrom covers c m σ d place
  closed_by_all is n all closed τ casts pass agrees comes = by (τ d) refl (casts d)
    where
      by : (o : Option Stamp) → τ d ≡ o → suits c m d o ≡ true → KeepsBy c m τ
      by None here h = absurd (both_ways (is_cast m d) (not-true (is_cast m d) h) is)
      by (Some s) here h =
          let parts = and_parts (is_cast m d) (lists c s && (not (has m.cards d) || subject_kind s.kind)) h in
          let found = listed_at c s (and_parts (lists c s) (not (has m.cards d) || subject_kind s.kind) parts.1).0 in
          closed found.0 (omega (arith, found.1, all)) τ casts pass agrees comes (here ∙ sym found.2)

  -- where a number is below the place's, no casting that gives it comes at the place or after it
  pub closed_before : Apart c.stamps → (k : ℕ) → k < first_at place → ClosedWith covers c m σ d place (stamp_at c (Some k))
  closed_before apart k less τ casts pass agrees comes here = absurd (not_before c apart τ d (Some k) here place less comes)

  -- what it may not be given, it is not given
  pub closed_unsuited : (stamp : Option Stamp) → suits c m d stamp ≡ false → ClosedWith covers c m σ d place stamp
  closed_unsuited stamp out τ casts pass agrees comes here = absurd (both_ways (suits c m d stamp) out (ap (suits c m d) (sym here) ∙ casts d))

module _ (covers : (k a b : ℕ) → Bool) (c : Certificate) (m : Command) (numbers : List (Option ℕ)) (d : ℕ) (place : List ℕ) (number : Option ℕ) (low : d < length numbers) where
  -- where a test fails that can be tried, it fails of all that agree
  pub closed_unready : list_all (λ t. not (named_below (d + 1) t) || passes covers (cast_state c (stamps_by c (set numbers d number))) t) m.tests ≡ false → ClosedWith covers c m (stamps_by c numbers) d place (stamp_at c number)
  closed_unready fails τ casts pass agrees comes here =
      absurd
      (both_ways (list_all (λ t. not (named_below (d + 1) t) || passes covers (cast_state c (stamps_by c (set numbers d number))) t) m.tests) fails
      (ready_all covers c (d + 1) (stamps_by c (set numbers d number)) τ (agrees_more c numbers d number τ low agrees here) m.tests pass))

  pub closed_more : Apart c.stamps → ClosedFrom covers c m (stamps_by c (set numbers d number)) (d + 1) (rest_of place number) → ClosedWith covers c m (stamps_by c numbers) d place (stamp_at c number)
  closed_more apart closed τ casts pass agrees comes here =
      closed τ casts pass (agrees_more c numbers d number τ low agrees here) (comes_on c apart τ d number here place comes)

-- none is bound at first
pub closed_at_first : (covers : (k a b : ℕ) → Bool) (c : Certificate) (m : Command) (σ : Casting) (place : List ℕ) → ClosedFrom covers c m σ 0 place → ClosedAt covers c m place
closed_at_first covers c m σ place closed τ casts pass comes = closed τ casts pass (λ i lt. absurd (omega (arith, lt))) comes

pub suits_at_first : (c : Certificate) (m : Command) (σ : Casting) → SuitsBelow c m σ 0
suits_at_first c m σ i lt = absurd (omega (arith, lt))

none_named : (t : Test) → named_below 0 t ≡ false
none_named (Holds r i j) = rw (le-ltb i 0 (omega arith)) refl
none_named (Is i k v) = le-ltb i 0 (omega arith)
none_named (IsNot i k v) = le-ltb i 0 (omega arith)
none_named (Covers i k j) = rw (le-ltb i 0 (omega arith)) refl

-- so no test is tried before the first
pub ready_at_first : (covers : (k a b : ℕ) → Bool) (seen : Protection) (tests : List Test) → list_all (λ t. not (named_below 0 t) || passes covers seen t) tests ≡ true
ready_at_first covers seen [] = refl
ready_at_first covers seen (t ∷ tests) = rw (none_named t) (ready_at_first covers seen tests)
