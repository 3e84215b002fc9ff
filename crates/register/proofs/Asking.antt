-- What a request answers, from what its parts answer one after the other.
use Rattle.std.proofs.Common.{◌≡◌, ℕ, List, [], ◌∷◌, ◌++◌, Some, None, Option, refl, sym, ap, ◌∙◌}
use Rattle.model.specs.Answers.{accepted, refused}
use Rattle.scheme.specs.Commands.{Command}
use Rattle.changes.specs.Names.{names_rules}
use Rattle.protection.specs.Commands.{name_at, seen}
use Rattle.protection.specs.Requests.{lowest_placed, unless_broken, unless_refused, seen_rules}
use Rattle.register.specs.Requests.{Asked, done, limit_rules, one_more, counted, request_rules}
use Rattle.register.specs.States.{State, Kept}

-- where no rule of a list is broken, those after it decide
past : (xs ys : List (ℕ × Option ℕ)) → lowest_placed xs ≡ None → lowest_placed (xs ++ ys) ≡ lowest_placed ys
past [] ys none = refl
past ((n, None) ∷ xs) ys none = past xs ys none
past ((n, Some p) ∷ xs) ys none = cc

-- where one is, it decides
before : (xs ys : List (ℕ × Option ℕ)) (r : ℕ × ℕ) → lowest_placed xs ≡ Some r → lowest_placed (xs ++ ys) ≡ Some r
before [] ys r some = cc
before ((n, None) ∷ xs) ys r some = before xs ys r some
before ((n, Some p) ∷ xs) ys r some = some

-- an accepted answer says that none is broken, and a refusal names the one that is
pub unbroken : {X : Type 0} (o : Option (ℕ × ℕ)) (x y : X) → accepted x ≡ unless_broken o y → o ≡ None
unbroken None x y is = refl
unbroken (Some r) x y is = cc

pub record Named (o : Option (ℕ × ℕ)) (layer number place : ℕ) : Type 0 where
  pub rule : ℕ × ℕ
  pub lowest : o ≡ Some rule
  pub says : (count : ℕ) → refused layer number place ≡ unless_broken {X = ℕ} (Some rule) count

pub named : {X : Type 0} (o : Option (ℕ × ℕ)) (x : X) (layer number place : ℕ) → refused layer number place ≡ unless_broken o x → Named o layer number place
named None x layer number place is = cc
named (Some r) x layer number place is =
    record {
      rule = r;
      lowest = refl;
      says = λ y.
          let layers : layer ≡ 5 = cc in
          let numbers : number ≡ r.0 = cc in
          let places : place ≡ r.1 = cc in
          λ i. refused (layers i) (numbers i) (places i);
    }

module _ (k : Kept) (s : State) (m : Command) (names : List ℕ) where
  abbrev in_names : List (ℕ × Option ℕ)
  in_names = names_rules m.params names

  abbrev in_seen : List (ℕ × Option ℕ)
  in_seen = seen_rules k.covers m (seen (name_at names) s.protection)

  abbrev at_limit : List (ℕ × Option ℕ)
  at_limit = limit_rules k.limit (done (Some m) names s.protection).cells

  asked_refused : (r : ℕ × ℕ) (layer number place : ℕ) → lowest_placed (request_rules k s.protection m names) ≡ Some r → ((count : ℕ) → refused layer number place ≡ unless_broken {X = ℕ} (Some r) count) → Asked k s (Some m) names (refused layer number place) s
  asked_refused r layer number place lowest says = record {
    answers = says (one_more s.count) ∙ ap (λ o. unless_broken o (one_more s.count)) (sym lowest);
    leaves = ap (λ o. unless_refused o s (counted (done (Some m) names s.protection) s.count)) (sym lowest);
  }

  pub by_names : (layer number place : ℕ) → Named (lowest_placed in_names) layer number place → Asked k s (Some m) names (refused layer number place) s
  by_names layer number place n = asked_refused n.rule layer number place (before in_names (in_seen ++ at_limit) n.rule n.lowest) n.says

  module _ (names_kept : lowest_placed in_names ≡ None) where
    pub by_seen : (layer number place : ℕ) → Named (lowest_placed in_seen) layer number place → Asked k s (Some m) names (refused layer number place) s
    by_seen layer number place n = asked_refused n.rule layer number place (past in_names (in_seen ++ at_limit) names_kept ∙ before in_seen at_limit n.rule n.lowest) n.says

    module _ (seen_kept : lowest_placed in_seen ≡ None) where
      past_both : lowest_placed (request_rules k s.protection m names) ≡ lowest_placed at_limit
      past_both = past in_names (in_seen ++ at_limit) names_kept ∙ past in_seen at_limit seen_kept

      pub by_limit : (layer number place : ℕ) → Named (lowest_placed at_limit) layer number place → Asked k s (Some m) names (refused layer number place) s
      by_limit layer number place n = asked_refused n.rule layer number place (past_both ∙ n.lowest) n.says

      pub by_none : lowest_placed at_limit ≡ None → Asked k s (Some m) names (accepted (one_more s.count)) (counted (done (Some m) names s.protection) s.count)
      by_none limit_kept =
          let all : lowest_placed (request_rules k s.protection m names) ≡ None = past_both ∙ limit_kept in
          record {
            answers = ap (λ o. unless_broken o (one_more s.count)) (sym all);
            leaves = ap (λ o. unless_refused o s (counted (done (Some m) names s.protection) s.count)) (sym all);
          }
