-- Tapes on which each order is an item: their languages, and that what is read whole is the encoding of well-formed items.
use Rattle.std.proofs.Common.{◌≡◌, ℕ, ◌≤◌, Bool, true, List, [], ◌∷◌, ◌++◌, length, is_some, is_none, Some, None, Option, sym, refl, ap, ◌∙◌, subst, append_assoc, append-nil}
use Rattle.std.proofs.lemmas.Bool.{and_parts, and_from}
use Rattle.std.specs.List.{flat_map}
use Rattle.model.specs.Lists.{each_after}
use Rattle.tapes.specs.declared.order.Order.{Order}
use Rattle.tapes.specs.declared.tape.Tape.{Tape}
use Rattle.tapes.specs.Grammars.{Runs, done, then, Whole}
use Rattle.tapes.specs.ItemTapes.{items_grammar, well_formed_items, EncodesItems, EncodesMade}
use Rattle.tapes.specs.Orders.{Case, spelt, case_of}
use Rattle.tapes.specs.Readers.{row_on}
use Rattle.tapes.specs.Table.{row}
use Rattle.tapes.proofs.Languages.{Language}
use Rattle.tapes.proofs.Law.{Encoding}

-- What the items of a tape are, and that each order of the tape is one: the parts of its language that no rule changes.
pub record Items (I : Type 0) : Type 0 where
  pub tape : Tape
  pub said : Order → Option I
  pub written : I → Case
  pub listed : (i : I) → row_on (written i).number tape ≡ Some (row (written i).number (length (written i).values) tape)
  pub read_back : Case → Option I
  pub back : (i : I) → read_back (written i) ≡ Some i
  pub says : (o : Order) → is_some (row_on (case_of o).number tape) ≡ true → (i : I) × ((said o ≡ Some i) × (written i ≡ case_of o))

abbrev pub items_language : {I : Type 0} → Items I → (broken : List I → I → Option ℕ) → Language I (List I)
items_language t broken =
    record {
      tape = t.tape;
      grammar = items_grammar (λ i. spelt (t.written i)) broken;
      said = t.said;
      written = t.written;
      spelt_so = λ i. refl;
      listed = t.listed;
      read_back = t.read_back;
      back = t.back;
      says = t.says;
    }

-- no rule is broken
none_broken : (b : Option ℕ) → is_none b ≡ true → b ≡ None
none_broken None h = refl
none_broken (Some n) h = cc

module _ {I : Type 0} (broken : List I → I → Option ℕ) where
  abbrev fits : List I → I → Bool
  fits before i = is_none (broken before i)

  -- What holds of no items, and of one more that breaks no rule after those of which it holds, holds of well-formed items.
  module _ (P : List I → Type 0) (more : (before : List I) (i : I) → P before → broken before i ≡ None → P (before ++ i ∷ [])) where
    kept_after : (before items : List I) → P before → each_after fits before items ≡ true → P (before ++ items)
    kept_after before [] kept formed = rw append-nil kept
    kept_after before (i ∷ items) kept formed =
        let parts = and_parts _ _ formed in
        subst P (append_assoc before (i ∷ []) items) (kept_after (before ++ i ∷ []) items (more before i kept (none_broken (broken before i) parts.0)) parts.1)

    pub kept_of_all : P [] → (items : List I) → well_formed_items broken items ≡ true → P items
    kept_of_all none items formed = kept_after [] items none formed

  module _ (code : I → List ℕ) where
    pub formed_run : (before items : List I) → each_after fits before items ≡ true → Runs (items_grammar code broken) before items (before ++ items)
    formed_run before [] formed = rw append-nil done
    formed_run before (i ∷ items) formed =
        let parts = and_parts _ _ formed in
        then
        (none_broken (broken before i) parts.0)
        (subst (Runs (items_grammar code broken) (before ++ i ∷ []) items) (append_assoc before (i ∷ []) items)
        (formed_run (before ++ i ∷ []) items parts.1))

    -- where a run has led to, and that its items fit
    record Ran (before items after : List I) : Type 0 where
      all : after ≡ before ++ items
      formed : each_after fits before items ≡ true

    run_formed : {before after items : List I} → Runs (items_grammar code broken) before items after → Ran before items after
    run_formed {before} done = record { all = sym (append-nil before); formed = refl }
    run_formed {before} {after} (then {i = i} {is = items} ok more) =
        let ran = run_formed more in
        record { all = ran.all ∙ append_assoc before (i ∷ []) items; formed = and_from _ _ (ap is_none ok) ran.formed }

    pub whole_encodes : (tape : List ℕ) (items : List I) → length tape ≤ 65535 → Whole (items_grammar code broken) tape items → EncodesItems code broken tape items
    whole_encodes tape items short w =
        let ran = run_formed w.lawful in
        (short, subst (λ is. tape ≡ flat_map code is) (sym ran.all) w.split, subst (λ is. well_formed_items broken is ≡ true) (sym ran.all) ran.formed)

    encoding_whole : (tape : List ℕ) (items : List I) → EncodesItems code broken tape items → Whole (items_grammar code broken) tape items
    encoding_whole tape items e = record { orders = items; lawful = formed_run [] items e.2; split = e.1; finished = refl }

    pub items_encoding : Encoding (items_grammar code broken) (EncodesItems code broken)
    items_encoding = record {
      of = λ items. items;
      short = λ tape items e. e.0;
      read = λ tape items e. (items, (encoding_whole tape items e, refl));
    }

    -- the same of what the items make
    pub made_encoding : {M : Type 0} (made : List I → M) → Encoding (items_grammar code broken) (EncodesMade code broken made)
    made_encoding made = record {
      of = made;
      short = λ tape m e. e.encodes.0;
      read = λ tape m e. (e.items, (encoding_whole tape e.items e.encodes, sym e.makes));
    }
