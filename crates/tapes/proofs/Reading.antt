-- A tape has one reading in its language, whose orders can be told apart.
use Rattle.std.proofs.Common.{◌≡◌, ℕ, false, List, [], ◌∷◌, ◌++◌, length, Some, None, Option, sym, refl, ap, ◌∙◌, subst, append_assoc, append-nil}
use Rattle.std.proofs.lemmas.Bool.{both_ways}
use Rattle.std.proofs.lemmas.Grind.{flat_map-append}
use Rattle.tapes.specs.Grammars.{Grammar, Runs, done, then, codes, Fails, no_order, breaks_rule, cut_short, Stopped, Whole}
use Rattle.tapes.proofs.Languages.{Language, same_order, never_empty}

pub some_none : {X : Type 0} (x : X) (o : Option X) → o ≡ Some x → o ≡ None → ⊥
some_none x o some none = cc

module _ {I D : Type 0} (g : Grammar I D) where
  -- one order more at the end
  pub runs_on : {d e : D} {is : List I} (i : I) → Runs g d is e → g.broken e i ≡ None → Runs g d (is ++ i ∷ []) (g.extended e i)
  runs_on i done ok = then ok done
  runs_on i (then first rest) ok = then first (runs_on i rest ok)

  -- one run after the other
  pub runs_join : {d e f : D} {is js : List I} → Runs g d is e → Runs g e js f → Runs g d (is ++ js) f
  runs_join done more = more
  runs_join (then first rest) more = then first (runs_join rest more)

  pub codes_join : (is js : List I) → codes g (is ++ js) ≡ codes g is ++ codes g js
  codes_join is js = flat_map-append g.code is js

module _ {I D : Type 0} (l : Language I D) where
  -- no order that could be read next breaks no rule
  abbrev Halts : D → List ℕ → Type 0
  Halts d rest = (i : I) (after : List ℕ) → rest ≡ l.grammar.code i ++ after → l.grammar.broken d i ≡ None → ⊥

  fails_halt : (d : D) (rest : List ℕ) (n : ℕ) → Fails l.grammar d rest n → Halts d rest
  fails_halt d rest n (no_order some none two) i after is ok = none i after is
  fails_halt d rest n (breaks_rule j more was bad) i after is ok =
      some_none n (l.grammar.broken d j) bad (ap (l.grammar.broken d) (same_order l j i more after (sym was ∙ is)).0 ∙ ok)
  fails_halt d rest n (cut_short end inside three) i after is ok = never_empty l i after (sym end ∙ is)

  end_halts : (d : D) → Halts d []
  end_halts d i after is ok = never_empty l i after is

  step_first : (i : I) (is : List I) (rest : List ℕ) → codes l.grammar (i ∷ is) ++ rest ≡ l.grammar.code i ++ (codes l.grammar is ++ rest)
  step_first i is rest = append_assoc (l.grammar.code i) (codes l.grammar is) rest

  pub record Same (is js : List I) (e f : D) (r s : List ℕ) : Type 0 where
    pub orders : is ≡ js
    pub reached : e ≡ f
    pub rest : r ≡ s

  same_walk : {d e f : D} {is js : List I} → Runs l.grammar d is e → Runs l.grammar d js f → (r s : List ℕ) → codes l.grammar is ++ r ≡ codes l.grammar js ++ s → Halts e r → Halts f s → Same is js e f r s
  same_walk done done r s h stop stop' = record { orders = refl; reached = refl; rest = h }
  same_walk done (then {i = j} {is = js} ok more) r s h stop stop' = absurd (stop j (codes l.grammar js ++ s) (h ∙ step_first j js s) ok)
  same_walk (then {i = i} {is = is} ok more) done r s h stop stop' = absurd (stop' i (codes l.grammar is ++ r) (sym h ∙ step_first i is r) ok)
  same_walk {d} {e} {f} (then {i = i} {is = is} ok more) (then {i = j} {is = js} ok' more') r s h stop stop' =
      let same = same_order l i j (codes l.grammar is ++ r) (codes l.grammar js ++ s) (sym (step_first i is r) ∙ h ∙ step_first j js s) in
      let turned = subst (λ k. Runs l.grammar (l.grammar.extended d k) js f) (sym same.0) more' in
      let walk = same_walk more turned r s same.1 stop stop' in
      record { orders = (λ n. same.0 n ∷ walk.orders n); reached = walk.reached; rest = walk.rest }

  fails_once : (d : D) (rest : List ℕ) (n m : ℕ) → Fails l.grammar d rest n → Fails l.grammar d rest m → n ≡ m
  fails_once d rest n m (no_order some none two) (no_order some' none' two') = two ∙ sym two'
  fails_once d rest n m (no_order some none two) (breaks_rule i after is bad) = absurd (none i after is)
  fails_once d rest n m (no_order some none two) (cut_short end inside three) = absurd (some end)
  fails_once d rest n m (breaks_rule i after is bad) (no_order some none two) = absurd (none i after is)
  fails_once d rest n m (breaks_rule i after is bad) (breaks_rule j after' is' bad') =
      let same : Some n ≡ Some m = sym bad ∙ ap (l.grammar.broken d) (same_order l i j after after' (sym is ∙ is')).0 ∙ bad' in cc
  fails_once d rest n m (breaks_rule i after is bad) (cut_short end inside three) = absurd (never_empty l i after (sym end ∙ is))
  fails_once d rest n m (cut_short end inside three) (no_order some none two) = absurd (some end)
  fails_once d rest n m (cut_short end inside three) (breaks_rule i after is bad) = absurd (never_empty l i after (sym end ∙ is))
  fails_once d rest n m (cut_short end inside three) (cut_short end' inside' three') = three ∙ sym three'

  pub stopped_once : (tape : List ℕ) (n p m q : ℕ) → Stopped l.grammar tape n p → Stopped l.grammar tape m q → (n ≡ m) × (p ≡ q)
  stopped_once tape n p m q a b =
      let walk = same_walk a.lawful b.lawful a.rest b.rest (sym a.split ∙ b.split) (fails_halt _ _ n a.why) (fails_halt _ _ m b.why) in
      let why = subst (λ d. Fails l.grammar d a.rest m) (sym walk.reached) (subst (λ r. Fails l.grammar b.reached r m) (sym walk.rest) b.why) in
      (fails_once _ _ n m a.why why, a.here ∙ ap (λ is. length (codes l.grammar is)) walk.orders ∙ sym b.here)

  -- what has been read of the whole tape, as a walk that ends with nothing left
  whole_split : (tape : List ℕ) (d : D) (w : Whole l.grammar tape d) → tape ≡ codes l.grammar w.orders ++ []
  whole_split tape d w = w.split ∙ sym (append-nil (codes l.grammar w.orders))

  pub whole_once : (tape : List ℕ) (d e : D) → Whole l.grammar tape d → Whole l.grammar tape e → d ≡ e
  whole_once tape d e a b = (same_walk a.lawful b.lawful [] [] (sym (whole_split tape d a) ∙ whole_split tape e b) (end_halts d) (end_halts e)).reached

  whole_fails_not : (d : D) (n : ℕ) → l.grammar.unfinished d ≡ false → Fails l.grammar d [] n → ⊥
  whole_fails_not d n finished (no_order some none two) = some refl
  whole_fails_not d n finished (breaks_rule i after is bad) = never_empty l i after is
  whole_fails_not d n finished (cut_short end inside three) = both_ways (l.grammar.unfinished d) finished inside

  pub whole_or_stopped : (tape : List ℕ) (d : D) (n p : ℕ) → Whole l.grammar tape d → Stopped l.grammar tape n p → ⊥
  whole_or_stopped tape d n p w s =
      let walk = same_walk w.lawful s.lawful [] s.rest (sym (whole_split tape d w) ∙ s.split) (end_halts d) (fails_halt _ _ n s.why) in
      let why = subst (λ e. Fails l.grammar e [] n) (sym walk.reached) (subst (λ r. Fails l.grammar s.reached r n) (sym walk.rest) s.why) in
      whole_fails_not d n w.finished why
