-- No certificate is both accepted and refused, and none is refused twice.
use Rattle.std.proofs.Common.{◌≡◌, ℕ, ◌<◌, ◌≤◌, Bool, List, sym, refl, ◌∙◌, inl, inr, ⊎_elim, arith}
use Rattle.std.proofs.lemmas.Bool.{cases_lt, both_ways}
use Rattle.model.specs.Answers.{Answer, accepted, refused}
use Rattle.model.specs.Lowest.{Lowest}
use Rattle.model.specs.Masks.{has}
use Rattle.scheme.specs.Commands.{Command}
use Rattle.protection.specs.Excerpts.{renewed}
use Rattle.protection.specs.States.{Protection}
use Rattle.certificates.specs.declared.ban.Ban.{Ban}
use Rattle.certificates.specs.Certificates.{Certificate, lists, allows, between}
use Rattle.castings.specs.declared.escape.Breach.{Breach}
use Rattle.castings.specs.declared.escape.Breach.TheVariants.{Unlisted, Cell, Row, Column}
use Rattle.castings.specs.declared.escape.Escape.{Escape}
use Rattle.castings.specs.Castings.{cast_state}
use Rattle.castings.specs.Closure.{Keeps, Closed, outcome_of}
use Rattle.castings.specs.Escapes.{IsBreach, IsEscape, casting_of}
use Rattle.register.specs.States.{Kept}
use Rattle.checker.specs.Containing.{Contains, AtFault}
use Rattle.checker.specs.Judgements.{ClosedUnderAll, NotClosed, BanMet, Accepts, Flawed, not_contained, not_closed, ban_met, Judged}

lowest_once : (P : ℕ → Type 0) (m n : ℕ) → Lowest P m → Lowest P n → m ≡ n
lowest_once P m n one other =
    ⊎_elim
    (λ (under : m < n). absurd (other.1 m under one.0))
    (λ (rest : n ≤ m).
    ⊎_elim
    (λ (over : n < m). absurd (one.1 n over other.0))
    (λ (equal : m ≤ n). omega arith)
    (cases_lt n m))
    (cases_lt m n)

pub contained_not_at_fault : (c : Certificate) (p : Protection) (n : ℕ) → Contains c p → AtFault c p n → ⊥
contained_not_at_fault c p n contains (inl fault) = both_ways (lists c fault.stamp) fault.unlisted (contains.stamps n fault.stamp fault.stands)
contained_not_at_fault c p n contains (inr fault) =
    let o = fault.0 in
    let right = fault.1 in
    both_ways (has (between c (p.entry n) (p.entry o)) right) fault.2.outside (contains.cells n o right fault.2.holds)

keeps_no_breach : (c : Certificate) (renewed : ℕ → Bool) (before after : Protection) (b : Breach) → Keeps c renewed before after → IsBreach c renewed before after b → ⊥
keeps_no_breach c renewed before after (Unlisted i) keeps at = both_ways (lists c at.stamp) at.unlisted (keeps.stamps i at.stamp at.stands)
keeps_no_breach c renewed before after (Cell i j right) keeps at = both_ways (has (allows c at.row at.column) right) at.outside (keeps.cells i j at.row at.column at.stands at.stands_too right at.holds)
keeps_no_breach c renewed before after (Row i w right) keeps at = both_ways (has (allows c at.new w) right) at.lost (keeps.rows i at.old at.new w at.moves at.listed right at.had)
keeps_no_breach c renewed before after (Column i w right) keeps at = both_ways (has (allows c w at.new) right) at.lost (keeps.columns i at.old at.new w at.moves at.listed right at.had)

pub closed_no_escape : (covers : ℕ → ℕ → ℕ → Bool) (c : Certificate) (m : Command) (e : Escape) → Closed covers c m → IsEscape covers c m e → ⊥
closed_no_escape covers c m e closed escape =
    keeps_no_breach c (renewed m.steps) (cast_state c (casting_of e)) (outcome_of c m (casting_of e)) e.breach
    (closed (casting_of e) escape.casts escape.passes)
    escape.breach

module _ (k : Kept) (c : Certificate) where
  closed_not_escaped : (number : ℕ) → ClosedUnderAll k c → NotClosed k c number → ⊥
  closed_not_escaped number closed escaped = closed_no_escape k.covers c escaped.0 escaped.2 (closed number escaped.0 escaped.1) escaped.3

  module _ (p : Protection) (bans : List Ban) where
    accepted_not_flawed : (number place : ℕ) → Accepts k p c bans → Flawed k p c bans number place → ⊥
    accepted_not_flawed number place accepts (not_contained is fault) = contained_not_at_fault c p place accepts.contains fault.0
    accepted_not_flawed number place accepts (not_closed is contains escaped) = closed_not_escaped place accepts.closed escaped.0
    accepted_not_flawed number place accepts (ban_met is contains closed met) = accepts.unmet place met.0

    flawed_once : (n a m b : ℕ) → Flawed k p c bans n a → Flawed k p c bans m b → (n ≡ m) × (a ≡ b)
    flawed_once n a m b (not_contained is fault) (not_contained is₂ fault₂) = (is ∙ sym is₂, lowest_once (AtFault c p) a b fault fault₂)
    flawed_once n a m b (not_contained is fault) (not_closed is₂ contains₂ escaped₂) = absurd (contained_not_at_fault c p a contains₂ fault.0)
    flawed_once n a m b (not_contained is fault) (ban_met is₂ contains₂ closed₂ met₂) = absurd (contained_not_at_fault c p a contains₂ fault.0)
    flawed_once n a m b (not_closed is contains escaped) (not_contained is₂ fault₂) = absurd (contained_not_at_fault c p b contains fault₂.0)
    flawed_once n a m b (not_closed is contains escaped) (not_closed is₂ contains₂ escaped₂) = (is ∙ sym is₂, lowest_once (NotClosed k c) a b escaped escaped₂)
    flawed_once n a m b (not_closed is contains escaped) (ban_met is₂ contains₂ closed₂ met₂) = absurd (closed_not_escaped a closed₂ escaped.0)
    flawed_once n a m b (ban_met is contains closed met) (not_contained is₂ fault₂) = absurd (contained_not_at_fault c p b contains fault₂.0)
    flawed_once n a m b (ban_met is contains closed met) (not_closed is₂ contains₂ escaped₂) = absurd (closed_not_escaped b closed escaped₂.0)
    flawed_once n a m b (ban_met is contains closed met) (ban_met is₂ contains₂ closed₂ met₂) = (is ∙ sym is₂, lowest_once (BanMet c bans) a b met met₂)

    pub judged_once : (a b : Answer (Unit {0})) → Judged k p c bans a → Judged k p c bans b → a ≡ b
    judged_once (accepted x) (accepted y) a b = refl
    judged_once (accepted x) (refused layer number place) a b = absurd (accepted_not_flawed number place a b.1)
    judged_once (refused layer number place) (accepted y) a b = absurd (accepted_not_flawed number place b a.1)
    judged_once (refused layer number place) (refused layer₂ number₂ place₂) a b =
        let layers : layer ≡ layer₂ = a.0 ∙ sym b.0 in
        let same = flawed_once number place number₂ place₂ a.1 b.1 in
        λ i. refused (layers i) (same.0 i) (same.1 i)
