-- What the rules of a request say of its names and of what they see, where none of them is broken.
use Rattle.std.proofs.Common.{◌≡◌, ℕ, Bool, true, not, eqb, leb, List, length, Some, None}
use Rattle.std.specs.List.{list_all, position}
use Rattle.std.proofs.lemmas.Bool.{and_parts, eqb-true, not-false}
use Rattle.scheme.specs.Commands.{Command}
use Rattle.stores.specs.Matrices.{is_name}
use Rattle.changes.specs.Names.{repeats, one_each}
use Rattle.changes.proofs.Naming.{all_distinct}
use Rattle.protection.specs.Commands.{name_at, seen, passes}
use Rattle.protection.specs.Excerpts.{Distinct}
use Rattle.protection.specs.Requests.{first_parameter, whole_if, standing_wrong, card_wrong}
use Rattle.protection.specs.States.{Protection}
use Rattle.register.proofs.Carrying.{front, not_whole}
use Rattle.register.specs.Requests.{broken_rule}
use Rattle.register.specs.States.{Kept}
use Rattle.checker.proofs.Passing.{none_fails}

-- the rules of a request that say something of its names and of what they see
pub record Obeyed (covers : ℕ → ℕ → ℕ → Bool) (m : Command) (names : List ℕ) (p : Protection) : Type 0 where
  pub sized : length names ≡ m.params
  pub distinct : Distinct names
  pub standing : first_parameter m.params (standing_wrong m (seen (name_at names) p)) ≡ None
  pub cards : first_parameter m.params (card_wrong m (seen (name_at names) p)) ≡ None
  pub passed : list_all (passes covers (seen (name_at names) p)) m.tests ≡ true

pub obeyed : (k : Kept) (m : Command) (names : List ℕ) (p : Protection) → broken_rule k p (Some m) names ≡ None → Obeyed k.covers m names p
obeyed k m names p kept =
    let r10 = front 10 (whole_if (not (one_each m.params names))) _ kept in
    let r11 = front 11 (first_parameter m.params (λ i. not (is_name (name_at names i)))) _ r10.1 in
    let r12 = front 12 (first_parameter m.params (repeats names)) _ r11.1 in
    let r13 = front 13 (first_parameter m.params (standing_wrong m (seen (name_at names) p))) _ r12.1 in
    let r14 = front 14 (first_parameter m.params (card_wrong m (seen (name_at names) p))) _ r13.1 in
    let r15 = front 15 (position (λ t. not (passes k.covers (seen (name_at names) p) t)) m.tests) _ r14.1 in
    let long = eqb-true (length names) m.params (and_parts (eqb (length names) m.params) (leb m.params 3) (not-false (one_each m.params names) (not_whole (not (one_each m.params names)) r10.0))).0 in
    record {
      sized = long;
      distinct = all_distinct names m.params long r12.0;
      standing = r13.0;
      cards = r14.0;
      passed = none_fails (passes k.covers (seen (name_at names) p)) m.tests r15.0;
    }
