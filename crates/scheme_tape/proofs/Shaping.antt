-- Orders that break no rule write a well-formed scheme, and their bytes are its encoding.
use Rattle.std.proofs.Common.{◌≡◌, ℕ, ◌<◌, ◌≤◌, true, leb, List, [], ◌∷◌, ◌++◌, length, Some, None, Option, sym, refl, ap, ◌∙◌, append_assoc, append-nil, arith, lit≤}
use Rattle.std.proofs.lemmas.List.{length_push, nil_from_length}
use Rattle.std.proofs.lemmas.Bool.{and_parts, and_from, le-leb, leb-true, leb-false, ltb-false, not-false}
use Rattle.std.proofs.lemmas.Grind.{flat_map-append}
use Rattle.std.specs.List.{flat_map, list_all}
use Rattle.model.specs.declared.counts.Counts.{Counts}
use Rattle.model.specs.Lists.{each_after}
use Rattle.model.proofs.Growing.{all_push, each_push}
use Rattle.model.proofs.Unbroken.{to_unbroken}
use Rattle.scheme.specs.declared.step.Step.{Step}
use Rattle.scheme.specs.declared.test.Test.{Test}
use Rattle.scheme.specs.Commands.{Command, test_fits, step_fits, begin_in_range, begin_rules, test_rules, step_rules}
use Rattle.scheme.specs.Schemes.{well_formed_command, well_formed}
use Rattle.scheme.specs.Steps.{step_shaped, step_valued}
use Rattle.scheme.specs.Tests.{test_shaped, test_valued}
use Rattle.tapes.specs.Grammars.{Runs, done, then, codes, Whole}
use Rattle.scheme_tape.specs.Drafts.{Draft, empty_draft, broken, extended, scheme_grammar}
use Rattle.scheme_tape.specs.Encoding.{encode}
use Rattle.scheme_tape.specs.Instructions.{Instruction, begins, tests, steps, ends, code}

-- the parts of a well-formed command
pub record Good (c : Counts) (m : Command) : Type 0 where
  pub ranged : begin_in_range m.params m.cards ≡ true
  pub few_tests : length m.tests ≤ 16
  pub few_steps : length m.steps ≤ 16
  pub fit_tests : list_all (test_fits m.params m.cards) m.tests ≡ true
  pub valued_tests : list_all (test_valued c) m.tests ≡ true
  pub fit_steps : each_after (step_fits m.params m.cards m.tests) [] m.steps ≡ true
  pub valued_steps : list_all (step_valued c) m.steps ≡ true

pub from_good : (c : Counts) (m : Command) → Good c m → well_formed_command c m ≡ true
from_good c m g =
    and_from _ _ g.ranged
    (and_from _ _ (le-leb _ _ g.few_tests)
    (and_from _ _ (le-leb _ _ g.few_steps)
    (and_from _ _ g.fit_tests
    (and_from _ _ g.valued_tests
    (and_from _ _ g.fit_steps g.valued_steps)))))

pub to_good : (c : Counts) (m : Command) → well_formed_command c m ≡ true → Good c m
to_good c m h =
    let a = and_parts _ _ h in
    let b = and_parts _ _ a.1 in
    let d = and_parts _ _ b.1 in
    let e = and_parts _ _ d.1 in
    let f = and_parts _ _ e.1 in
    let g = and_parts _ _ f.1 in
    record {
      ranged = a.0;
      few_tests = leb-true _ _ b.0;
      few_steps = leb-true _ _ d.0;
      fit_tests = e.0;
      valued_tests = f.0;
      fit_steps = g.0;
      valued_steps = g.1;
    }

-- the bytes of a command that is not ended
abbrev encode_begun : Command → List ℕ
encode_begun m =
    code (begins m.params m.cards)
    ++ (flat_map (λ t. code (tests t)) m.tests ++ flat_map (λ s. code (steps s)) m.steps)

abbrev encode_current : Option Command → List ℕ
encode_current None = []
encode_current (Some m) = encode_begun m

abbrev pub encode_draft : Draft → List ℕ
encode_draft d = encode d.finished ++ encode_current d.current

-- what is being written is well-formed so far, and there is room for it
abbrev Current : Counts → (finished : List Command) → Option Command → Type 0
Current c finished None = Unit {0}
Current c finished (Some m) = (length finished < 16) × Good c m

pub record Sound (c : Counts) (d : Draft) : Type 0 where
  pub few : length d.finished ≤ 16
  pub formed : list_all (well_formed_command c) d.finished ≡ true
  pub current : Current c d.finished d.current

-- one order more: the draft stays sound, and its bytes are followed by the order's
abbrev Grows : Counts → Draft → Instruction → Type 0
Grows c d i = Sound c (extended d i) × (encode_draft (extended d i) ≡ encode_draft d ++ code i)

module _ (c : Counts) (finished : List Command) where
  abbrev outside : Draft
  outside = record { finished = finished; current = None }

  abbrev inside : Command → Draft
  inside m = record { finished = finished; current = Some m }

  grows_begin : (p q : ℕ) → Sound c outside → broken c outside (begins p q) ≡ None → Grows c outside (begins p q)
  grows_begin p q sound ok =
      let kept = to_unbroken ((4, leb 16 (length finished)) ∷ begin_rules p q) ok in
      let room : length finished < 16 = leb-false _ _ kept.0 in (
        record {
          few = sound.few;
          formed = sound.formed;
          current = (
            room,
            record {
              ranged = not-false _ kept.1.0;
              few_tests = lit≤ tt;
              few_steps = lit≤ tt;
              fit_tests = refl;
              valued_tests = refl;
              fit_steps = refl;
              valued_steps = refl;
            },
          );
        },
        simp append-nil,
      )

  grows_test : (m : Command) (t : Test) → Sound c (inside m) → broken c (inside m) (tests t) ≡ None → Grows c (inside m) (tests t)
  grows_test m t sound ok =
      let kept = to_unbroken (test_rules c m t) ok in
      let good = sound.current.1 in
      let no_steps : m.steps ≡ [] = nil_from_length m.steps (let low = ltb-false 0 (length m.steps) kept.0 in omega arith) in
      let few : length m.tests < 16 = leb-false _ _ kept.1.0 in
      let ranged = and_parts (test_shaped m.params t) (test_valued c t) (not-false _ kept.1.1.0) in
      let row = not-false _ kept.1.1.1.0 in (
        record {
          few = sound.few;
          formed = sound.formed;
          current = (
            sound.current.0,
            record {
              ranged = good.ranged;
              few_tests = omega (arith, length_push m.tests t);
              few_steps = good.few_steps;
              fit_tests = all_push _ m.tests t ∙ and_from _ _ good.fit_tests (and_from _ _ ranged.0 row);
              valued_tests = all_push _ m.tests t ∙ and_from _ _ good.valued_tests ranged.1;
              fit_steps = ap (each_after (step_fits m.params m.cards (m.tests ++ t ∷ [])) []) no_steps;
              valued_steps = good.valued_steps;
            },
          );
        },
        rw no_steps (simp (flat_map-append, append-nil, append_assoc)),
      )

  grows_step : (m : Command) (s : Step) → Sound c (inside m) → broken c (inside m) (steps s) ≡ None → Grows c (inside m) (steps s)
  grows_step m s sound ok =
      let kept = to_unbroken (step_rules c m s) ok in
      let good = sound.current.1 in
      let few : length m.steps < 16 = leb-false _ _ kept.0 in
      let ranged = and_parts (step_shaped m.params s) (step_valued c s) (not-false _ kept.1.0) in
      let rules = not-false _ kept.1.1.0 in (
        record {
          few = sound.few;
          formed = sound.formed;
          current = (
            sound.current.0,
            record {
              ranged = good.ranged;
              few_tests = good.few_tests;
              few_steps = omega (arith, length_push m.steps s);
              fit_tests = good.fit_tests;
              valued_tests = good.valued_tests;
              fit_steps = each_push _ [] m.steps s ∙ and_from _ _ good.fit_steps (and_from _ _ ranged.0 rules);
              valued_steps = all_push _ m.steps s ∙ and_from _ _ good.valued_steps ranged.1;
            },
          );
        },
        simp (flat_map-append, append-nil, append_assoc),
      )

  grows_end : (m : Command) → Sound c (inside m) → Grows c (inside m) ends
  grows_end m sound = (
    record {
      few = omega (arith, length_push finished m, sound.current.0);
      formed = all_push _ finished m ∙ and_from _ _ sound.formed (from_good c m sound.current.1);
      current = tt;
    },
    simp (flat_map-append, append-nil, append_assoc),
  )

grows : (c : Counts) (finished : List Command) (current : Option Command) (i : Instruction) → Sound c (record { finished = finished; current = current }) → broken c (record { finished = finished; current = current }) i ≡ None → Grows c (record { finished = finished; current = current }) i
grows c finished None (begins p q) sound ok = grows_begin c finished p q sound ok
grows c finished None (tests t) sound ok = cc
grows c finished None (steps s) sound ok = cc
grows c finished None ends sound ok = cc
grows c finished (Some m) (begins p q) sound ok = cc
grows c finished (Some m) (tests t) sound ok = grows_test c finished m t sound ok
grows c finished (Some m) (steps s) sound ok = grows_step c finished m s sound ok
grows c finished (Some m) ends sound ok = grows_end c finished m sound

-- a lawful run keeps a draft sound, and adds its bytes
sound_run : (c : Counts) {d e : Draft} {is : List Instruction} → Runs (scheme_grammar c) d is e → Sound c d → Sound c e × (encode_draft e ≡ encode_draft d ++ codes (scheme_grammar c) is)
sound_run c {d} done sound = (sound, sym (append-nil (encode_draft d)))
sound_run c {d} {e} (then {i = i} {is = is} ok more) sound =
    let one = grows c d.finished d.current i sound ok in
    let rest = sound_run c more one.0 in
    (rest.0, rest.1 ∙ ap (λ l. l ++ codes (scheme_grammar c) is) one.1 ∙ append_assoc (encode_draft d) (code i) (codes (scheme_grammar c) is))

sound_start : (c : Counts) → Sound c empty_draft
sound_start c = record { few = omega arith; formed = refl; current = tt }

-- a tape that is read whole is the encoding of well-formed commands
pub whole_encodes : (c : Counts) (tape : List ℕ) (finished : List Command) → Whole (scheme_grammar c) tape (record { finished = finished; current = None }) → (tape ≡ encode finished) × (well_formed c finished ≡ true)
whole_encodes c tape finished w =
    let run = sound_run c w.lawful (sound_start c) in (
      w.split ∙ sym run.1 ∙ append-nil (encode finished),
      and_from _ _ (le-leb _ _ run.0.few) run.0.formed,
    )
