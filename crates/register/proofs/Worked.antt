-- The worked small kiosk, by computing. Only the rule on the limit is not computed: no matrix fills more than a board.
use Rattle.std.proofs.Common.{◌≡◌, ℕ, true, Bool, List, [], ◌∷◌, Some, None, Option, ◌↔◌, sym, refl, ap, ◌∙◌, subst, arith}
use Rattle.std.proofs.lemmas.Bool.{le-ltb}
use Rattle.model.specs.declared.counts.Counts.{Counts}
use Rattle.model.specs.declared.kind.Kind.TheVariants.{Subject}
use Rattle.model.specs.Answers.{Answer, accepted, refused}
use Rattle.model.specs.Masks.{has, with_right}
use Rattle.model.specs.Stamps.{stamp_of}
use Rattle.rulings.specs.declared.question.Question.{Question}
use Rattle.scheme.specs.Commands.{Command}
use Rattle.scheme.specs.Schemes.{well_formed}
use Rattle.stores.specs.Matrices.{Matrix, count}
use Rattle.stores.proofs.Counting.{count_bound}
use Rattle.scheme_tape.specs.Encoding.{encode}
use Rattle.scheme_tape.specs.Reading.{SchemeRead}
use Rattle.scheme_tape.proofs.Law.{one_reading}
use Rattle.opening.specs.Opened.{told, left}
use Rattle.model.specs.Kiosk.{kiosk_counts, kiosk_covers}
use Rattle.opening.specs.Worked.{kiosk_tape, kiosk_items, kiosk_state}
use Rattle.opening.proofs.Worked.{small_kiosk}
use Rattle.protection.specs.Requests.{lowest_placed, whole_if, unless_broken, unless_refused}
use Rattle.register.specs.Openings.{Opens}
use Rattle.register.specs.Requests.{limit_rules, broken_rule, done, one_more, counted, Asked}
use Rattle.register.specs.States.{State, Kept}
use Rattle.register.specs.Worked.{kiosk_scheme, hand_on, make_card, take_away, kiosk_commands, kiosk_opened, KioskOnBoard, Refuses, KioskRows, WorkedKiosk}

formed : well_formed kiosk_counts kiosk_commands ≡ true
unfolding has
formed = refl

spelt : kiosk_scheme ≡ encode kiosk_commands
spelt = refl

scheme_read : SchemeRead kiosk_counts kiosk_scheme (accepted kiosk_commands)
scheme_read = (spelt, formed)

one_scheme : (answer : Answer (List Command)) → SchemeRead kiosk_counts kiosk_scheme answer ↔ (answer ≡ accepted kiosk_commands)
one_scheme answer = (
  λ read. one_reading kiosk_counts kiosk_scheme answer (accepted kiosk_commands) read scheme_read,
  λ is. subst (SchemeRead kiosk_counts kiosk_scheme) (sym is) scheme_read,
)

-- what a register of the kiosk keeps
abbrev kept_with : (Question → Bool) → Kept
kept_with says = record { counts = kiosk_counts; covers = kiosk_covers; commands = kiosk_commands; limit = 4096; says = says }

-- no matrix fills more than a board
never_over : (f : Matrix) → lowest_placed (limit_rules 4096 f) ≡ None
never_over f = ap (λ b. lowest_placed ((16, whole_if b) ∷ [])) (le-ltb 4096 (count f) (count_bound f))

-- what a request leaves that breaks no rule, and one that breaks one
accepted_by : (k : Kept) (s : State) (m : Option Command) (names : List ℕ) (answer : Answer ℕ) (after : State) → broken_rule k s.protection m names ≡ None → Asked k s m names answer after → (answer ≡ accepted (one_more s.count)) × (after ≡ counted (done m names s.protection) s.count)
accepted_by k s m names answer after none asked = (
  asked.answers ∙ ap (λ o. unless_broken o (one_more s.count)) none,
  asked.leaves ∙ ap (λ o. unless_refused o s (counted (done m names s.protection) s.count)) none,
)

refused_by : (k : Kept) (s : State) (m : Option Command) (names : List ℕ) (rule : ℕ × ℕ) (answer : Answer ℕ) (after : State) → broken_rule k s.protection m names ≡ Some rule → Asked k s m names answer after → (answer ≡ refused 5 rule.0 rule.1) × (after ≡ s)
refused_by k s m names rule answer after some asked = (
  asked.answers ∙ ap (λ o. unless_broken o (one_more s.count)) some,
  asked.leaves ∙ ap (λ o. unless_refused o s (counted (done m names s.protection) s.count)) some,
)

-- the first request that is accepted
first : (k : Kept) (m : Option Command) (names : List ℕ) (Then : State → Type 0) → broken_rule k kiosk_state m names ≡ None → Then (counted (done m names kiosk_state) 0) → (answer : Answer ℕ) (after : State) → Asked k kiosk_opened m names answer after → (answer ≡ accepted 1) × (after.count ≡ 1) × Then after
first k m names Then none holds answer after asked =
    let both = accepted_by k kiosk_opened m names answer after none asked in
    (both.0, ap (λ (s : State). s.count) both.1, subst Then (sym both.1) holds)

module _ (says : Question → Bool) where
  abbrev k : Kept
  k = kept_with says

  hands_on : broken_rule k kiosk_state (Some hand_on) (0 ∷ 1 ∷ 2 ∷ []) ≡ None
  unfolding has
  hands_on = never_over (done (Some hand_on) (0 ∷ 1 ∷ 2 ∷ []) kiosk_state).cells

  no_right : broken_rule k kiosk_state (Some hand_on) (1 ∷ 0 ∷ 2 ∷ []) ≡ Some (15, 0)
  unfolding has
  no_right = refl

  low_grade : broken_rule k (done (Some hand_on) (0 ∷ 1 ∷ 2 ∷ []) kiosk_state) (Some hand_on) (1 ∷ 0 ∷ 2 ∷ []) ≡ Some (15, 1)
  unfolding has with_right
  low_grade = refl

  makes : broken_rule k kiosk_state (Some make_card) (0 ∷ 63 ∷ []) ≡ None
  unfolding has
  makes = never_over (done (Some make_card) (0 ∷ 63 ∷ []) kiosk_state).cells

  no_name : broken_rule k kiosk_state (Some make_card) (0 ∷ 64 ∷ []) ≡ Some (11, 1)
  no_name = refl

  same_name : broken_rule k kiosk_state (Some make_card) (0 ∷ 0 ∷ []) ≡ Some (12, 1)
  same_name = refl

  stands : broken_rule k kiosk_state (Some make_card) (0 ∷ 1 ∷ []) ≡ Some (13, 1)
  stands = refl

  takes_away : broken_rule k kiosk_state (Some take_away) (2 ∷ []) ≡ None
  unfolding has
  takes_away = never_over (done (Some take_away) (2 ∷ []) kiosk_state).cells

  now_held : has ((done (Some hand_on) (0 ∷ 1 ∷ 2 ∷ []) kiosk_state).cells 1 2) 0 ≡ true
  unfolding has with_right
  now_held = refl

  new_card : (done (Some make_card) (0 ∷ 63 ∷ []) kiosk_state).entry 63 ≡ Some (stamp_of Subject (Some 1) None None None)
  unfolding has
  new_card = refl

  rows : KioskRows k kiosk_opened
  rows = record {
    handed_on =
        first k (Some hand_on) (0 ∷ 1 ∷ 2 ∷ [])
        (λ after. has (after.protection.cells 1 2) 0 ≡ true)
        hands_on
        now_held;
    low_grade =
        first k (Some hand_on) (0 ∷ 1 ∷ 2 ∷ [])
        (λ after. Refuses k after 0 (1 ∷ 0 ∷ 2 ∷ []) 15 1)
        hands_on
        (λ answer after. refused_by k (counted (done (Some hand_on) (0 ∷ 1 ∷ 2 ∷ []) kiosk_state) 0) (Some hand_on) (1 ∷ 0 ∷ 2 ∷ []) (15, 1) answer after low_grade);
    no_right = λ answer after. refused_by k kiosk_opened (Some hand_on) (1 ∷ 0 ∷ 2 ∷ []) (15, 0) answer after no_right;
    made = first k (Some make_card) (0 ∷ 63 ∷ []) (λ after. after.protection.entry 63 ≡ Some (stamp_of Subject (Some 1) None None None)) makes new_card;
    no_name = λ answer after. refused_by k kiosk_opened (Some make_card) (0 ∷ 64 ∷ []) (11, 1) answer after no_name;
    same_name = λ answer after. refused_by k kiosk_opened (Some make_card) (0 ∷ 0 ∷ []) (12, 1) answer after same_name;
    stands = λ answer after. refused_by k kiosk_opened (Some make_card) (0 ∷ 1 ∷ []) (13, 1) answer after stands;
    taken_away = first k (Some take_away) (2 ∷ []) (λ after. (after.protection.entry 2 ≡ None) × (after.protection.cells 0 2 ≡ 0)) takes_away (refl, refl);
  }

  opens : (answer : Answer (Unit {0})) (s : State) → Opens k kiosk_tape answer s → (answer ≡ accepted tt) × (s ≡ kiosk_opened)
  opens answer s o =
      let reading : o.opened.reading ≡ accepted kiosk_items = (small_kiosk.opens 4096 (omega arith) o.opened.reading).0 o.opened.read in
      let protection : s.protection ≡ kiosk_state = o.opened.stands ∙ ap left reading ∙ small_kiosk.state in
      (o.opened.answered ∙ ap told reading, λ i. record { protection = protection i; count = o.begun i })

-- What a register of the kiosk keeps is this, but for its ruling.
kept_is : (k : Kept) → KioskOnBoard k → k ≡ kept_with k.says
kept_is k on =
    let read : SchemeRead kiosk_counts kiosk_scheme (accepted k.commands) = subst (λ (c : Counts). SchemeRead c kiosk_scheme (accepted k.commands)) on.counts on.scheme in
    let one : accepted k.commands ≡ accepted kiosk_commands = (one_scheme (accepted k.commands)).0 read in
    let commands : k.commands ≡ kiosk_commands = cc in
    λ i. record { counts = on.counts i; covers = on.covers i; commands = commands i; limit = on.board i; says = k.says }

pub worked_kiosk : WorkedKiosk
worked_kiosk = record {
  scheme = one_scheme;
  opens = λ k on answer s o. opens k.says answer s (subst (λ (k : Kept). Opens k kiosk_tape answer s) (kept_is k on) o);
  rows = λ k on s o.
      let s_is : s ≡ kiosk_opened = (opens k.says (accepted tt) s (subst (λ (k : Kept). Opens k kiosk_tape (accepted tt) s) (kept_is k on) o)).1 in
      subst (λ (k : Kept). KioskRows k s) (sym (kept_is k on)) (subst (KioskRows (kept_with k.says)) (sym s_is) (rows k.says));
}
