-- From the calls that a request is made of: which command and names it is about, and the state in which it is done.
use Rattle.std.proofs.Common.{◌≡◌, ℕ, Bool, true, false, not, eqb, leb, List, [], length, Some, None, Option, slice_get, refl, sym, ap, ◌∙◌, subst}
use Rattle.std.proofs.lemmas.Bool.{and_parts, not-false, eqb-true}
use Rattle.model.specs.declared.stamp.Stamp.{Stamp}
use Rattle.model.specs.Answers.{Answer, accepted, refused}
use Rattle.model.specs.Lists.{each_after}
use Rattle.scheme.specs.Commands.{Command, step_fits}
use Rattle.stores.specs.Matrices.{Matrix}
use Rattle.changes.specs.Names.{one_each, names_rules}
use Rattle.protection.specs.Commands.{name_at, seen, run}
use Rattle.protection.specs.Excerpts.{itself, renewed, entries_back, put_back, Distinct, RunsWhole}
use Rattle.protection.specs.Requests.{first_parameter, whole_if, or_else, lowest_placed, unless_broken, unless_refused, standing_wrong, card_wrong, seen_rules}
use Rattle.protection.specs.Sound.{Sound, KeepsSound}
use Rattle.protection.specs.States.{Protection}
use Rattle.register.specs.Requests.{Asked, done, found, limit_rules, cells_after, one_more, counted}
use Rattle.register.specs.States.{State, Kept}
use Rattle.register.proofs.Limits.{fine}
use Rattle.register.proofs.Asking.{named, unbroken, by_seen, by_limit, by_none}

-- the command and the names that a request is about, and what the names see
pub record Bound (k : Kept) (s : State) (number : ℕ) (given : List ℕ) (m : Command) (names : List ℕ) (before : Protection) : Type 0 where
  pub exists : accepted m ≡ found (slice_get k.commands number)
  pub bound : accepted names ≡ unless_broken (lowest_placed (names_rules m.params given)) given
  pub sees : before ≡ seen (name_at names) s.protection

there : (o : Option Command) (m : Command) → accepted m ≡ found o → o ≡ Some m
there None m is = cc
there (Some n) m is = let same : m ≡ n = cc in ap (λ x. Some x) (sym same)

bound_to : (o : Option (ℕ × ℕ)) (names given : List ℕ) → accepted names ≡ unless_broken o given → names ≡ given
bound_to None names given is = cc
bound_to (Some r) names given is = cc

-- a rule at the front of a list in which none is broken
pub front : (n : ℕ) (o : Option ℕ) (rest : Option (ℕ × ℕ)) → or_else n o rest ≡ None → (o ≡ None) × (rest ≡ None)
front n None rest none = (refl, none)
front n (Some p) rest none = cc

pub not_whole : (b : Bool) → whole_if b ≡ None → b ≡ false
not_whole false none = refl
not_whole true none = cc

module _ (k : Kept) (s : State) (number : ℕ) (given : List ℕ) (m : Command) (names : List ℕ) (before : Protection) (b : Bound k s number given m names before) where
  names_kept : lowest_placed (names_rules m.params given) ≡ None
  names_kept = unbroken (lowest_placed (names_rules m.params given)) names given b.bound

  same_names : names ≡ given
  same_names = bound_to (lowest_placed (names_rules m.params given)) names given b.bound

  sees_given : before ≡ seen (name_at given) s.protection
  sees_given = b.sees ∙ ap (λ n. seen (name_at n) s.protection) same_names

  enough : length given ≡ m.params
  enough =
      let first = front 10 (whole_if (not (one_each m.params given))) _ names_kept in
      let fits : one_each m.params given ≡ true = not-false _ (not_whole (not (one_each m.params given)) first.0) in
      eqb-true (length given) m.params (and_parts (eqb (length given) m.params) (leb m.params 3) fits).0

  asked : (answer : Answer ℕ) (after : State) → Asked k s (Some m) given answer after → Asked k s (slice_get k.commands number) given answer after
  asked answer after a = subst (λ o. Asked k s o given answer after) (sym (there (slice_get k.commands number) m b.exists)) a

  pub refused_by_tests : (layer n place : ℕ) → refused layer n place ≡ unless_broken {X = Unit {0}} (lowest_placed (seen_rules k.covers m before)) tt → Asked k s (slice_get k.commands number) given (refused layer n place) s
  refused_by_tests layer n place is =
      asked (refused layer n place) s
      (by_seen k s m given names_kept layer n place (named (lowest_placed (seen_rules k.covers m (seen (name_at given) s.protection))) tt layer n place (is ∙ ap (λ e. unless_broken (lowest_placed (seen_rules k.covers m e)) tt) sees_given)))

  module _ (admitted : fine ≡ unless_broken (lowest_placed (seen_rules k.covers m before)) tt) (whole : RunsWhole m) (distinct : Distinct names) (after : Protection) (outcome : after ≡ run m.cards itself m.steps before) where
    seen_kept : lowest_placed (seen_rules k.covers m (seen (name_at given) s.protection)) ≡ None
    seen_kept = ap (λ e. lowest_placed (seen_rules k.covers m e)) (sym sees_given) ∙ unbroken (lowest_placed (seen_rules k.covers m before)) tt tt admitted

    distinct_given : Distinct given
    distinct_given = subst Distinct same_names distinct

    -- what is put back is the steps, run on the whole state
    put_whole : put_back names (renewed m.steps) after s.protection ≡ done (Some m) given s.protection
    put_whole =
        ap (λ n. put_back n (renewed m.steps) after s.protection) same_names
        ∙ ap (λ e. put_back given (renewed m.steps) e s.protection) (outcome ∙ ap (run m.cards itself m.steps) sees_given)
        ∙ sym (whole given s.protection enough distinct_given)

    cells_whole : cells_after m names after s.protection.cells ≡ (done (Some m) given s.protection).cells
    cells_whole = ap (λ (p : Protection). p.cells) put_whole

    abbrev at_limit : Option (ℕ × ℕ)
    at_limit = lowest_placed (limit_rules k.limit (cells_after m names after s.protection.cells))

    pub refused_by_limit : (layer n place : ℕ) → refused layer n place ≡ unless_broken {X = Unit {0}} at_limit tt → (cells : Matrix) → cells ≡ unless_refused at_limit s.protection.cells (cells_after m names after s.protection.cells) → (cells ≡ s.protection.cells) × Asked k s (slice_get k.commands number) given (refused layer n place) s
    refused_by_limit layer n place is cells left =
        let rule = named at_limit tt layer n place is in (
          left ∙ ap (λ o. unless_refused o s.protection.cells (cells_after m names after s.protection.cells)) rule.lowest,
          asked (refused layer n place) s
              (by_limit k s m given names_kept seen_kept layer n place
              (named (lowest_placed (limit_rules k.limit (done (Some m) given s.protection).cells)) tt layer n place (is ∙ ap (λ c. unless_broken (lowest_placed (limit_rules k.limit c)) tt) cells_whole))),
        )

    module _ (fits : fine ≡ unless_broken at_limit tt) (cells : Matrix) (left : cells ≡ unless_refused at_limit s.protection.cells (cells_after m names after s.protection.cells)) (entries : ℕ → Option Stamp) (put : entries ≡ entries_back names after.entry s.protection.entry) where
      abbrev now : Protection
      now = record { entry = entries; cells = cells }

      now_done : now ≡ done (Some m) given s.protection
      now_done =
          let limit_kept = unbroken at_limit tt tt fits in
          let cells_put : cells ≡ cells_after m names after s.protection.cells = left ∙ ap (λ o. unless_refused o s.protection.cells (cells_after m names after s.protection.cells)) limit_kept in
          let both : now ≡ put_back names (renewed m.steps) after s.protection = λ i. record { entry = put i; cells = cells_put i } in
          both ∙ put_whole

      pub all_done : (count : ℕ) → count ≡ one_more s.count → Asked k s (slice_get k.commands number) given (accepted count) (record { protection = now; count = count })
      all_done count is =
          let limit_kept : lowest_placed (limit_rules k.limit (done (Some m) given s.protection).cells) ≡ None =
          ap (λ c. lowest_placed (limit_rules k.limit c)) (sym cells_whole) ∙ unbroken at_limit tt tt fits in
          let state : record { protection = now; count = count } ≡ counted (done (Some m) given s.protection) s.count = λ i. record { protection = now_done i; count = is i } in
          subst (λ n. Asked k s (slice_get k.commands number) given (accepted n) (record { protection = now; count = count })) (sym is)
          (subst (Asked k s (slice_get k.commands number) given (accepted (one_more s.count))) (sym state)
          (asked (accepted (one_more s.count)) (counted (done (Some m) given s.protection) s.count) (by_none k s m given names_kept seen_kept limit_kept)))

      pub stays_sound : KeepsSound m → each_after (step_fits m.params m.cards m.tests) [] m.steps ≡ true → Sound s.protection → Sound now
      stays_sound keeps stepped sound =
          let standing = front 13 (first_parameter m.params (standing_wrong m (seen (name_at given) s.protection))) _ seen_kept in
          let cards = front 14 (first_parameter m.params (card_wrong m (seen (name_at given) s.protection))) _ standing.1 in
          subst Sound (sym now_done) (keeps given s.protection stepped enough distinct_given standing.0 cards.0 sound)
