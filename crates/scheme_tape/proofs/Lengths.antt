-- The encoding of a well-formed scheme is far shorter than the longest tape.
use Rattle.std.proofs.Common.{◌≡◌, ℕ, ◌*◌, ◌≤◌, true, List, [], ◌∷◌, ◌++◌, length, ap, mul-suc, arith}
use Rattle.std.proofs.lemmas.List.{length-append}
use Rattle.std.proofs.lemmas.Bool.{and_parts, leb-true}
use Rattle.std.specs.List.{flat_map, list_all}
use Rattle.model.specs.declared.counts.Counts.{Counts}
use Rattle.scheme.specs.declared.step.Step.{Step}
use Rattle.scheme.specs.declared.step.Step.TheVariants.{Enter, Delete, Set, Create, Destroy}
use Rattle.scheme.specs.declared.test.Test.{Test}
use Rattle.scheme.specs.declared.test.Test.TheVariants.{Holds, Is, IsNot, Covers}
use Rattle.scheme.specs.Commands.{Command}
use Rattle.scheme.specs.Schemes.{well_formed_command, well_formed}
use Rattle.scheme_tape.specs.Encoding.{encode_command, encode}
use Rattle.scheme_tape.specs.Instructions.{begins, tests, steps, ends, code}
use Rattle.scheme_tape.proofs.Shaping.{Good, to_good}

-- a list of parts, each of at most k bytes
joined_short : {X : Type 0} (f : X → List ℕ) (k : ℕ) → ((x : X) → length (f x) ≤ k) → (xs : List X) → length (flat_map f xs) ≤ k * length xs
joined_short f k each [] = omega arith
joined_short f k each (x ∷ xs) = omega (arith, length-append (f x) (flat_map f xs), each x, joined_short f k each xs, mul-suc k (length xs))

test_short : (t : Test) → length (code (tests t)) ≤ 4
test_short (Holds r i j) = omega arith
test_short (Is i k v) = omega arith
test_short (IsNot i k v) = omega arith
test_short (Covers i k j) = omega arith

step_short : (s : Step) → length (code (steps s)) ≤ 4
step_short (Enter r i j) = omega arith
step_short (Delete r i j) = omega arith
step_short (Set i k v) = omega arith
step_short (Create i) = omega arith
step_short (Destroy i) = omega arith

command_short : (c : Counts) (m : Command) → Good c m → length (encode_command m) ≤ 132
command_short c m good =
    let ts = flat_map (λ t. code (tests t)) m.tests in
    let ss = flat_map (λ s. code (steps s)) m.steps in
    let a = joined_short (λ t. code (tests t)) 4 test_short m.tests in
    let b = joined_short (λ s. code (steps s)) 4 step_short m.steps in
    omega (arith, length-append (code (begins m.params m.cards)) (ts ++ (ss ++ code ends)), length-append ts (ss ++ code ends), length-append ss (code ends), a, b, good.few_tests, good.few_steps)

commands_short : (c : Counts) (commands : List Command) → list_all (well_formed_command c) commands ≡ true → length (encode commands) ≤ 132 * length commands
commands_short c [] formed = omega arith
commands_short c (m ∷ commands) formed =
    let parts = and_parts _ _ formed in
    omega (arith, length-append (encode_command m) (encode commands), command_short c m (to_good c m parts.0), commands_short c commands parts.1, mul-suc 132 (length commands))

pub encoding_short : (c : Counts) (tape : List ℕ) (commands : List Command) → tape ≡ encode commands → well_formed c commands ≡ true → length tape ≤ 65535
encoding_short c tape commands is formed =
    let parts = and_parts _ _ formed in
    omega (arith, ap length is, commands_short c commands parts.1, leb-true _ _ parts.0)
