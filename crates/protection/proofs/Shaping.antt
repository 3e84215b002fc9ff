-- Every command's steps name its parameters only.
use Rattle.std.proofs.Common.{◌≡◌, ℕ, ◌<◌, ◌≤◌, true, ◌&&◌, ltb, List, [], ◌∷◌, ◌++◌, length, get_or, sym, refl, ◌∙◌, arith}
use Rattle.std.proofs.lemmas.Bool.{and_parts, and_from, ltb-true, lt-ltb, true≢false, true_from_ne_false}
use Rattle.std.proofs.lemmas.List.Folds.{list_all_at}
use Rattle.std.specs.List.{list_all}
use Rattle.model.specs.Bounded.{listed}
use Rattle.scheme.specs.declared.command.Command.{Command}
use Rattle.scheme.specs.declared.step.Step.{Step}
use Rattle.scheme.specs.declared.step.Step.TheVariants.{Enter, Delete, Set, Create, Destroy}
use Rattle.scheme.specs.declared.test.Test.{Test}
use Rattle.scheme.specs.Commands.{step_fits}
use Rattle.model.specs.Lists.{each_after}
use Rattle.scheme.specs.Steps.{step_shaped, step_row_declared, well_placed}
use Rattle.protection.specs.Excerpts.{RunsWhole}
use Rattle.scheme.specs.Views.{view}
use Rattle.protection.proofs.Places.{Shaped}
use Rattle.protection.proofs.Wholes.{runs_whole}

pub shaped_after : (n cards : ℕ) (tests : List Test) (before steps : List Step) → each_after (step_fits n cards tests) before steps ≡ true → Shaped n steps
shaped_after n cards tests before [] h = refl
shaped_after n cards tests before (s ∷ steps) h =
    let parts = and_parts (step_fits n cards tests before s) (each_after (step_fits n cards tests) (before ++ s ∷ []) steps) h in
    let fits = and_parts (step_shaped n s) (step_row_declared cards s && well_placed tests before s) parts.0 in
    and_from (step_shaped n s) (list_all (step_shaped n) steps) fits.0 (shaped_after n cards tests (before ++ s ∷ []) steps parts.1)

pub steps_shaped : (m : Command) → Shaped m.parameters.count (listed m.steps)
steps_shaped m = shaped_after m.parameters.count m.parameters.cards (listed m.tests) [] (listed m.steps) m.stepped

-- so what is said of all commands holds of each
pub command_runs_whole : (m : Command) → RunsWhole (view m)
command_runs_whole m = runs_whole (view m) (steps_shaped m)

-- what names one of n parameters names one of more
pub named_of_more : (n k i : ℕ) → n ≤ k → ltb i n ≡ true → ltb i k ≡ true
named_of_more n k i more h = lt-ltb i k (omega (arith, ltb-true i n h))

cell_of_more : (n k r i j : ℕ) → n ≤ k → (ltb r 16 && (ltb i n && ltb j n)) ≡ true → (ltb r 16 && (ltb i k && ltb j k)) ≡ true
cell_of_more n k r i j more h =
    let parts = and_parts (ltb r 16) (ltb i n && ltb j n) h in
    let ends = and_parts (ltb i n) (ltb j n) parts.1 in
    and_from (ltb r 16) (ltb i k && ltb j k) parts.0
    (and_from (ltb i k) (ltb j k) (named_of_more n k i more ends.0) (named_of_more n k j more ends.1))

shaped_of_more : (n k : ℕ) (s : Step) → n ≤ k → step_shaped n s ≡ true → step_shaped k s ≡ true
shaped_of_more n k (Enter r i j) more h = cell_of_more n k r i j more h
shaped_of_more n k (Delete r i j) more h = cell_of_more n k r i j more h
shaped_of_more n k (Set i a v) more h =
    let parts = and_parts (ltb i n) (ltb a 4) h in
    and_from (ltb i k) (ltb a 4) (named_of_more n k i more parts.0) parts.1
shaped_of_more n k (Create i) more h = named_of_more n k i more h
shaped_of_more n k (Destroy i) more h = named_of_more n k i more h

all_of_more : (n k : ℕ) (steps : List Step) → n ≤ k → Shaped n steps → Shaped k steps
all_of_more n k [] more h = refl
all_of_more n k (s ∷ steps) more h =
    let parts = and_parts (step_shaped n s) (list_all (step_shaped n) steps) h in
    and_from (step_shaped k s) (list_all (step_shaped k) steps) (shaped_of_more n k s more parts.0) (all_of_more n k steps more parts.1)

-- they name none but the three that there can be
pub three_shaped : (m : Command) → Shaped 3 (listed m.steps)
three_shaped m = all_of_more m.parameters.count 3 (listed m.steps) m.parameters.few (steps_shaped m)

-- one of them
pub shaped_at : (n : ℕ) (steps : List Step) (i : ℕ) (d : Step) → Shaped n steps → i < length steps → step_shaped n (get_or steps i d) ≡ true
shaped_at n steps i d shaped lt =
    true_from_ne_false (step_shaped n (get_or steps i d)) (λ no. true≢false (sym shaped ∙ list_all_at (step_shaped n) steps i d lt no))
