-- The turns of a loop over the orders of a tape: what has been read is a lawful run of orders, and where the loop stops it
-- shows why.
use Rattle.std.proofs.Common.{◌≡◌, ℕ, ◌+◌, ◌<◌, ◌≤◌, Bool, true, false, cond, leb, List, [], ◌∷◌, ◌++◌, length, drop, Some, None, Ok, Err, Option, Result, sym, refl, ap, ◌∙◌, subst, append_assoc, append-nil, arith, length-drop, inl, inr}
use Rattle.std.proofs.lemmas.Bool.{leb-false}
use Rattle.std.proofs.lemmas.List.{drop-drop, drop_all, length-append, flat_map_more}
use Rattle.model.specs.declared.fault.Fault.{Fault}
use Rattle.model.specs.Answers.{accepted, refusal, unless, answer}
use Rattle.model.specs.Faults.{layer_number, reason_number}
use Rattle.tapes.specs.declared.orders.Orders.{Orders}
use Rattle.tapes.specs.declared.reader.Placed.{Placed}
use Rattle.tapes.specs.declared.tape.Tape.{Tape}
use Rattle.tapes.specs.Answering.{RefusedIn, TapeRead}
use Rattle.tapes.specs.Grammars.{Grammar, Runs, done, codes, Fails, no_order, breaks_rule, cut_short, Stopped, Whole}
use Rattle.tapes.specs.Orders.{Case, spelt, case_of}
use Rattle.tapes.specs.Readers.{At, placed, first_order, fault_of, handed_on, measured, size_of}
use Rattle.tapes.specs.Steps.{Reads, Steps}
use Rattle.tapes.specs.Taking.{broken_order, extended_order, taken}
use Rattle.tapes.specs.Tapes.{layer_of}
use Rattle.tapes.proofs.Handing.{order_splits, order_on}
use Rattle.tapes.proofs.Languages.{Language, finds}
use Rattle.tapes.proofs.Reading.{runs_on, some_none}
use Rattle.tapes.proofs.Stepping.{stood, reads_on, at_end}

-- the first `at` bytes are orders that break no rule, and lead to this
pub record SoFar {I D : Type 0} (g : Grammar I D) (bytes : List ℕ) (at : ℕ) (d : D) : Type 0 where
  pub orders : List I
  pub lawful : Runs g g.start orders d
  pub split : bytes ≡ codes g orders ++ drop at bytes
  pub here : at ≡ length (codes g orders)

-- where a loop stands: its iterator has read the first bytes, and they lead to this
pub record Stands {I D : Type 0} (l : Language I D) (bytes : List ℕ) (s : Orders) (d : D) : Type 0 where
  pub reads : Reads l.tape bytes s.at s
  pub so_far : SoFar l.grammar bytes s.at d

-- a fault that is right for the tape
abbrev pub RightFault : {I D : Type 0} → Language I D → List ℕ → Fault → Type 0
RightFault l bytes f = RefusedIn l.tape l.grammar bytes (layer_number f.layer) (reason_number f.reason) f.place

-- the rule that the order breaks here, and what has been read with it too
abbrev pub breaks : {I D : Type 0} → Language I D → D → Placed → Option ℕ
breaks l d p = broken_order l.grammar d (l.said p.order)

abbrev pub extends : {I D : Type 0} → Language I D → D → Placed → D
extends l d p = extended_order l.grammar d (l.said p.order)

-- too many bytes
pub too_many : {I D : Type 0} (l : Language I D) (bytes : List ℕ) (f : Fault) → refusal f ≡ measured l.tape bytes → RightFault l bytes f
too_many l bytes f h = by (leb (length bytes) 65535) refl h
  where
    by : (b : Bool) → leb (length bytes) 65535 ≡ b → refusal f ≡ cond b (accepted (length bytes)) (fault_of l.tape 1 65535) → RightFault l bytes f
    by true fits is = cc
    by false over is =
        let long : 65535 < length bytes = leb-false _ _ over in
        subst (TapeRead {X = ℕ} l.tape l.grammar (λ b x. ⊥) bytes) (sym is) (refl, inl (long, refl, refl))

pub stands_first : {I D : Type 0} {l : Language I D} {bytes : List ℕ} {s o : Orders} {d : D} → Reads l.tape bytes 0 o → s ≡ o → d ≡ l.grammar.start → Stands l bytes s d
stands_first {I} {D} {l} {bytes} {s} {o} {d} start same empty =
    let at : s.at ≡ 0 = ap (λ (x : Orders). x.at) same ∙ start.at in
    let first : SoFar l.grammar bytes 0 l.grammar.start = record { orders = []; lawful = done; split = refl; here = refl } in
    record {
      reads = record { tape = ap (λ (x : Orders). x.tape) same ∙ start.tape; bytes = ap (λ (x : Orders). x.bytes.now) same ∙ start.bytes; at = refl };
      so_far = subst (λ n. SoFar l.grammar bytes n d) (sym at) (subst (SoFar l.grammar bytes 0) (sym empty) first);
    }

module _ {I D : Type 0} {l : Language I D} {bytes : List ℕ} {s : Orders} {d : D} (stands : Stands l bytes s d) where
  pub short : length bytes ≤ 65535
  short = omega (arith, s.short, ap length stands.reads.bytes)

  stopped : (number : ℕ) → Fails l.grammar d (drop s.at bytes) number → Stopped l.grammar bytes number s.at
  stopped number why =
      let so_far = stands.so_far in
      record {
        before = so_far.orders;
        reached = d;
        rest = drop s.at bytes;
        lawful = so_far.lawful;
        split = so_far.split;
        here = so_far.here;
        why = why;
      }

  right_fault : {X : Type 0} (number : ℕ) → Fails l.grammar d (drop s.at bytes) number → (f : Fault) → refusal {X = X} f ≡ fault_of l.tape number s.at → RightFault l bytes f
  right_fault number why f is = subst (TapeRead l.tape l.grammar (λ b x. ⊥) bytes) (sym is) (refl, inr (short, stopped number why))

-- The iterator hands on a refusal: no order of this tape stands here.
nothing_stands : {I D : Type 0} {l : Language I D} {bytes : List ℕ} {s : Orders} {d : D} → Stands l bytes s d → s.at < length bytes → first_order l.tape (drop s.at bytes) ≡ None → Fails l.grammar d (drop s.at bytes) 2
nothing_stands {I} {D} {l} {bytes} {s} stands inside none =
    no_order
    (λ empty. absurd (let long : length (drop s.at bytes) ≡ 0 = ap length empty in omega (arith, length-drop s.at bytes)))
    (λ i after is. some_none (l.written i) (first_order l.tape (drop s.at bytes)) (ap (first_order l.tape) is ∙ finds l i after) none)
    refl

pub refused_next : {I D : Type 0} {l : Language I D} {bytes : List ℕ} {s t : Orders} {d : D} {r : Result Placed Fault} {f : Fault} → Stands l bytes s d → Steps s (Some r) t → r ≡ Err f → RightFault l bytes f
refused_next {I} {D} {l} {bytes} {s} {t} {d} {r} {f} stands step is =
    let here = stood l.tape bytes s t stands.reads r step in
    by here.inside (first_order l.tape (drop s.at bytes)) refl (sym (ap (answer placed) is) ∙ here.came)
  where
    by : s.at < length bytes → (o : Option Case) → first_order l.tape (drop s.at bytes) ≡ o → refusal f ≡ handed_on l.tape s.at o → RightFault l bytes f
    by inside None none h = right_fault stands 2 (nothing_stands stands inside none) f h
    by inside (Some order) none h = cc

-- which order was handed on
record Found (tape : Tape) (bytes : List ℕ) (at : ℕ) (p : Placed) : Type 0 where
  order : first_order tape (drop at bytes) ≡ Some (case_of p.order)
  place : p.offset ≡ at
  size : p.size ≡ size_of (case_of p.order)

found_by : (tape : Tape) (bytes : List ℕ) (at : ℕ) (p : Placed) (o : Option Case) → first_order tape (drop at bytes) ≡ o → accepted (placed p) ≡ handed_on tape at o → Found tape bytes at p
found_by tape bytes at p None is h = cc
found_by tape bytes at p (Some k) is h =
    let same : placed p ≡ record { order = k; offset = at; size = size_of k } = cc in
    let order : case_of p.order ≡ k = ap (λ (x : At). x.order) same in
    record { order = is ∙ ap (λ x. Some x) (sym order); place = ap (λ (x : At). x.offset) same; size = ap (λ (x : At). x.size) same ∙ ap size_of (sym order) }

pub not_broken : (tape : Tape) (place : ℕ) (rule : Option ℕ) → accepted tt ≡ taken tape place rule → rule ≡ None
not_broken tape place None h = refl
not_broken tape place (Some number) h = cc

-- The iterator hands on an order; this is what it says.
module _ {I D : Type 0} {l : Language I D} {bytes : List ℕ} {s t : Orders} {d : D} {r : Result Placed Fault} {p : Placed} (stands : Stands l bytes s d) (step : Steps s (Some r) t) (is : r ≡ Ok p) where
  found : Found l.tape bytes s.at p
  found = found_by l.tape bytes s.at p (first_order l.tape (drop s.at bytes)) refl (sym (ap (answer placed) is) ∙ (stood l.tape bytes s t stands.reads r step).came)

  meant : (i : I) × ((l.said p.order ≡ Some i) × (l.written i ≡ case_of p.order))
  meant = l.says p.order (order_on l.tape (drop s.at bytes) (case_of p.order) found.order)

  -- its bytes stand here
  spelt_here : l.grammar.code meant.0 ≡ spelt (case_of p.order)
  spelt_here = l.spelt_so meant.0 ∙ ap spelt meant.1.1

  rest_is : drop s.at bytes ≡ l.grammar.code meant.0 ++ drop (s.at + p.size) bytes
  rest_is =
      order_splits l.tape (drop s.at bytes) (case_of p.order) found.order
      ∙ ap (λ b. b ++ drop (size_of (case_of p.order)) (drop s.at bytes)) (sym spelt_here)
      ∙ ap (λ b. l.grammar.code meant.0 ++ b) (drop-drop (size_of (case_of p.order)) s.at bytes)
      ∙ ap (λ n. l.grammar.code meant.0 ++ drop (s.at + n) bytes) (sym found.size)

  -- one that breaks no rule is behind then
  one_more : breaks l d p ≡ None → SoFar l.grammar bytes (s.at + p.size) (extends l d p)
  one_more ok =
      let g = l.grammar in
      let i = meant.0 in
      let before = stands.so_far.orders in
      let joined : codes g (before ++ i ∷ []) ≡ codes g before ++ g.code i = sym (flat_map_more g.code [] before i) in
      let long : length (g.code i) ≡ p.size = ap length spelt_here ∙ omega (arith, found.size) in
      record {
        orders = before ++ i ∷ [];
        lawful = subst (Runs g g.start (before ++ i ∷ [])) (sym (ap (extended_order g d) meant.1.0)) (runs_on g i stands.so_far.lawful (sym (ap (broken_order g d) meant.1.0) ∙ ok));
        split =
            stands.so_far.split ∙ ap (λ b. codes g before ++ b) rest_is
            ∙ sym (append_assoc (codes g before) (g.code i) (drop (s.at + p.size) bytes))
            ∙ ap (λ b. b ++ drop (s.at + p.size) bytes) (sym joined);
        here = omega (arith, stands.so_far.here, long, ap length joined, length-append (codes g before) (g.code i));
      }

  -- it is refused, by the rule that it breaks
  pub refused_order : (f : Fault) → refusal f ≡ taken l.tape p.offset (breaks l d p) → RightFault l bytes f
  refused_order f h = by (breaks l d p) refl h
    where
      by : (rule : Option ℕ) → breaks l d p ≡ rule → refusal f ≡ taken l.tape p.offset rule → RightFault l bytes f
      by None bad h = cc
      by (Some number) bad h =
          let broken = sym (ap (broken_order l.grammar d) meant.1.0) ∙ bad in
          right_fault stands number (breaks_rule meant.0 (drop (s.at + p.size) bytes) rest_is broken) f (h ∙ ap (fault_of l.tape number) found.place)

  -- it is taken in, and the loop stands behind it
  pub stands_on : {e : D} → accepted tt ≡ taken l.tape p.offset (breaks l d p) → e ≡ unless (breaks l d p) d (extends l d p) → Stands l bytes t e
  stands_on {e} answer after =
      let ok : breaks l d p ≡ None = not_broken l.tape p.offset (breaks l d p) answer in
      let on = reads_on l.tape bytes s t stands.reads r p is step in
      record {
        reads = record { tape = on.tape; bytes = on.bytes; at = refl };
        so_far = subst (λ n. SoFar l.grammar bytes n e) (sym on.at)
            (subst (SoFar l.grammar bytes (s.at + p.size)) (sym (after ∙ ap (λ b. unless b d (extends l d p)) ok)) (one_more ok));
      }

-- The iterator hands on nothing: the tape ends here.
module _ {I D : Type 0} {l : Language I D} {bytes : List ℕ} {s t : Orders} {d : D} (stands : Stands l bytes s d) (step : Steps s None t) where
  ended : s.at ≡ length bytes
  ended = at_end l.tape bytes s t stands.reads step

  nothing_left : drop s.at bytes ≡ []
  nothing_left = drop_all s.at bytes (omega (arith, ended))

  pub refused_end : l.grammar.unfinished d ≡ true → RefusedIn l.tape l.grammar bytes (layer_number (layer_of l.tape)) 3 (length bytes)
  refused_end unfinished =
      subst (RefusedIn l.tape l.grammar bytes (layer_number (layer_of l.tape)) 3) ended
      (refl, inr (short stands, stopped stands 3 (cut_short nothing_left unfinished refl)))

  pub read_whole : l.grammar.unfinished d ≡ false → Whole l.grammar bytes d
  read_whole finished =
      let so_far = stands.so_far in
      record {
        orders = so_far.orders;
        lawful = so_far.lawful;
        split = so_far.split ∙ ap (λ b. codes l.grammar so_far.orders ++ b) nothing_left ∙ append-nil _;
        finished = finished;
      }
