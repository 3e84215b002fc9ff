-- The orders of a well-formed scheme, one after the other, break no rule.
use Rattle.std.proofs.Common.{◌≡◌, ℕ, ◌+◌, ◌<◌, ◌≤◌, true, leb, List, [], ◌∷◌, ◌++◌, map, length, Some, None, sym, refl, ap, ◌∙◌, subst, append_assoc, append-nil, arith}
use Rattle.std.proofs.lemmas.List.{length_push}
use Rattle.std.proofs.lemmas.Bool.{and_parts, and_from, leb-true, lt-leb, not_from_true}
use Rattle.std.proofs.lemmas.Grind.{flat_map-append}
use Rattle.std.proofs.lemmas.List.Folds.{flat_map-map}
use Rattle.std.specs.List.{flat_map, list_all}
use Rattle.model.specs.declared.counts.Counts.{Counts}
use Rattle.model.specs.Lists.{each_after}
use Rattle.model.proofs.Unbroken.{from_unbroken}
use Rattle.scheme.specs.declared.step.Step.{Step}
use Rattle.scheme.specs.declared.test.Test.{Test}
use Rattle.scheme.specs.Commands.{Command, test_fits, step_fits, begin_rules, test_rules, step_rules}
use Rattle.scheme.specs.Schemes.{well_formed_command, well_formed}
use Rattle.scheme.specs.Steps.{step_valued}
use Rattle.scheme.specs.Tests.{test_valued}
use Rattle.tapes.specs.Grammars.{Runs, done, then, codes, Whole}
use Rattle.tapes.proofs.Reading.{runs_join, codes_join}
use Rattle.scheme_tape.specs.Drafts.{Draft, scheme_grammar}
use Rattle.scheme_tape.specs.Encoding.{encode_command, encode}
use Rattle.scheme_tape.specs.Instructions.{Instruction, begins, tests, steps, ends}
use Rattle.scheme_tape.proofs.Shaping.{Good, to_good}

module _ (c : Counts) (finished : List Command) (params cards : ℕ) where
  abbrev during : List Test → List Step → Draft
  during ts ss = record { finished = finished; current = Some (record { params = params; cards = cards; tests = ts; steps = ss }) }

  tests_run : (before ts : List Test) → length before + length ts ≤ 16 → list_all (test_fits params cards) ts ≡ true → list_all (test_valued c) ts ≡ true → Runs (scheme_grammar c) (during before []) (map tests ts) (during (before ++ ts) [])
  tests_run before [] few fit valued = rw append-nil done
  tests_run before (t ∷ ts) few fit valued =
      let fits = and_parts _ _ fit in
      let shaped = and_parts _ _ fits.0 in
      let values = and_parts _ _ valued in
      let rules = test_rules c (record { params = params; cards = cards; tests = before; steps = [] }) t in
      let room : length before < 16 = omega arith in
      then
      (from_unbroken rules (refl, (lt-leb 16 (length before) room, (not_from_true _ (and_from _ _ shaped.0 values.0), (not_from_true _ shaped.1, tt)))))
      (subst (λ l. Runs (scheme_grammar c) (during (before ++ t ∷ []) []) (map tests ts) (during l [])) (append_assoc before (t ∷ []) ts)
      (tests_run (before ++ t ∷ []) ts (omega (arith, length_push before t)) fits.1 values.1))

  steps_run : (ts : List Test) (before ss : List Step) → length before + length ss ≤ 16 → each_after (step_fits params cards ts) before ss ≡ true → list_all (step_valued c) ss ≡ true → Runs (scheme_grammar c) (during ts before) (map steps ss) (during ts (before ++ ss))
  steps_run ts before [] few fit valued = rw append-nil done
  steps_run ts before (s ∷ ss) few fit valued =
      let fits = and_parts _ _ fit in
      let shaped = and_parts _ _ fits.0 in
      let values = and_parts _ _ valued in
      let rules = step_rules c (record { params = params; cards = cards; tests = ts; steps = before }) s in
      let room : length before < 16 = omega arith in
      then
      (from_unbroken rules (lt-leb 16 (length before) room, (not_from_true _ (and_from _ _ shaped.0 values.0), (not_from_true _ shaped.1, tt))))
      (subst (λ l. Runs (scheme_grammar c) (during ts (before ++ s ∷ [])) (map steps ss) (during ts l)) (append_assoc before (s ∷ []) ss)
      (steps_run ts (before ++ s ∷ []) ss (omega (arith, length_push before s)) fits.1 values.1))

-- the orders of one command, and of a scheme
abbrev orders_of : Command → List Instruction
orders_of m = begins m.params m.cards ∷ (map tests m.tests ++ (map steps m.steps ++ ends ∷ []))

abbrev between : List Command → Draft
between finished = record { finished = finished; current = None }

command_run : (c : Counts) (finished : List Command) (m : Command) → length finished < 16 → Good c m → Runs (scheme_grammar c) (between finished) (orders_of m) (between (finished ++ m ∷ []))
command_run c finished m room good =
    let g = scheme_grammar c in
    then
    (from_unbroken ((4, leb 16 (length finished)) ∷ begin_rules m.params m.cards) (lt-leb 16 (length finished) room, (not_from_true _ good.ranged, tt)))
    (runs_join g (tests_run c finished m.params m.cards [] m.tests (omega (arith, good.few_tests)) good.fit_tests good.valued_tests)
    (runs_join g (steps_run c finished m.params m.cards m.tests [] m.steps (omega (arith, good.few_steps)) good.fit_steps good.valued_steps)
    (then refl done)))

scheme_run : (c : Counts) (finished commands : List Command) → length finished + length commands ≤ 16 → list_all (well_formed_command c) commands ≡ true → Runs (scheme_grammar c) (between finished) (flat_map orders_of commands) (between (finished ++ commands))
scheme_run c finished [] few formed = rw append-nil done
scheme_run c finished (m ∷ commands) few formed =
    let parts = and_parts _ _ formed in
    let room : length finished < 16 = omega arith in
    runs_join (scheme_grammar c) (command_run c finished m room (to_good c m parts.0))
    (subst (λ l. Runs (scheme_grammar c) (between (finished ++ m ∷ [])) (flat_map orders_of commands) (between l)) (append_assoc finished (m ∷ []) commands)
    (scheme_run c (finished ++ m ∷ []) commands (omega (arith, length_push finished m)) parts.1))

-- their bytes are the encoding
command_codes : (c : Counts) (m : Command) → codes (scheme_grammar c) (orders_of m) ≡ encode_command m
command_codes c m = simp (flat_map-append, flat_map-map, append-nil)

scheme_codes : (c : Counts) (commands : List Command) → codes (scheme_grammar c) (flat_map orders_of commands) ≡ encode commands
scheme_codes c [] = refl
scheme_codes c (m ∷ commands) =
    codes_join (scheme_grammar c) (orders_of m) (flat_map orders_of commands)
    ∙ ap (λ l. l ++ codes (scheme_grammar c) (flat_map orders_of commands)) (command_codes c m)
    ∙ ap (λ l. encode_command m ++ l) (scheme_codes c commands)

-- so the encoding of a well-formed scheme is read whole, as that scheme
pub encoding_whole : (c : Counts) (tape : List ℕ) (commands : List Command) → tape ≡ encode commands → well_formed c commands ≡ true → Whole (scheme_grammar c) tape (record { finished = commands; current = None })
encoding_whole c tape commands is formed =
    let parts = and_parts _ _ formed in
    let few : length commands ≤ 16 = leb-true _ _ parts.0 in
    record {
      orders = flat_map orders_of commands;
      lawful = scheme_run c [] commands (omega arith) parts.1;
      split = is ∙ sym (scheme_codes c commands);
      finished = refl;
    }
