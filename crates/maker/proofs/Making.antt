-- What makings have to do with checks: what is made is accepted, and whatever else is accepted says all that it says.
use Rattle.std.proofs.Common.{◌≡◌, ℕ, ◌≤◌, List, ◌++◌, length, take, drop, sym, ap, refl, subst, ◌∙◌, arith}
use Rattle.std.proofs.Math.Seq.{take-append_seam}
use Rattle.model.specs.Answers.{Answer, accepted, refused}
use Rattle.certificates.specs.declared.ban.Ban.{Ban}
use Rattle.certificates.specs.BanTapes.{BansRead}
use Rattle.certificates.specs.Certificates.{Certificate}
use Rattle.certificates.specs.Reading.{Encodes}
use Rattle.certificates.proofs.Readings.{one_bans_reading}
use Rattle.register.specs.States.{State, Kept}
use Rattle.writing.specs.Writing.{full_size}
use Rattle.checker.specs.Checks.{Checked, judged}
use Rattle.checker.specs.Judgements.{Accepts}
use Rattle.checker.proofs.Answering.{accepted_exactly, same_read, not_both}
use Rattle.maker.specs.Making.{HandsOut, Made, bad_bans, too_small, none, made, Handed, MakesLeast, SaysAll, NoneAccepted}
use Rattle.maker.proofs.Refusing.{holds}

module _ (k : Kept) (s : State) where
  -- ---- what is made is accepted

  abbrev pub HandedOut : List Ban → Certificate → List ℕ → Type 0
  HandedOut = HandsOut k s.protection

  pub made_accepted : (banned : List Ban) (c : Certificate) (tape : List ℕ) → HandedOut banned c tape → Accepts k s.protection c banned
  made_accepted banned c tape out = record { contains = out.least.holds.contains; closed = out.least.holds.closed; unmet = out.unmet }

  checks_out : (bans : List ℕ) (banned : List Ban) (c : Certificate) (tape : List ℕ) → BansRead k.counts bans (accepted banned) → HandedOut banned c tape → Checked k s tape bans (accepted tt)
  checks_out bans banned c tape read out = judged c banned out.back read (made_accepted banned c tape out)

  -- ---- what a check accepts

  record Shown (certificate : List ℕ) (banned : List Ban) : Type 0 where
    pub c : Certificate
    pub encodes : Encodes k.counts certificate c
    pub accepts : Accepts k s.protection c banned

  shown : (certificate bans : List ℕ) (banned : List Ban) → BansRead k.counts bans (accepted banned) → Checked k s certificate bans (accepted tt) → Shown certificate banned
  shown certificate bans banned read checked =
      let is = (accepted_exactly k s certificate bans (accepted tt) checked).0 refl in
      record {
        c = is.0;
        encodes = is.2;
        accepts = subst (Accepts k s.protection is.0) (same_read is.1 banned (one_bans_reading k.counts bans (accepted is.1) (accepted banned) is.3 read)) is.4;
      }

  none_shown : (certificate bans : List ℕ) (banned : List Ban) → BansRead k.counts bans (accepted banned) → NoneAccepted k s.protection banned → Checked k s certificate bans (accepted tt) → ⊥
  none_shown certificate bans banned read no_one checked = let is = shown certificate bans banned read checked in no_one certificate is.c is.encodes is.accepts

  -- ---- what is handed out stands at the front of the buffer, and is as long as the answer says

  pub record Out (bans : List ℕ) (n : ℕ) (after : List ℕ) : Type 0 where
    pub banned : List Ban
    pub c : Certificate
    pub read : BansRead k.counts bans (accepted banned)
    pub long : length (take n after) ≡ n
    pub hands : HandedOut banned c (take n after)

  front : (n : ℕ) (tape rest after : List ℕ) → n ≡ length tape → after ≡ tape ++ rest → take n after ≡ tape
  front n tape rest after long is = rw (long, is) (take-append_seam tape rest)

  pub handed_out : (bans buffer after : List ℕ) (n : ℕ) → Made k s bans buffer (accepted n) after → Out bans n after
  handed_out bans buffer after n (bad_bans l m p read is kept) = not_both n l m p (sym is)
  handed_out bans buffer after n (too_small banned read small is kept) = not_both n 6 20 0 (sym is)
  handed_out bans buffer after n (none banned read large no_one is kept) = not_both n 6 21 0 (sym is)
  handed_out bans buffer after n (made banned m read large out is) =
      let long = same_read n m is ∙ out.long in
      let here = front n out.tape (drop m buffer) after long out.bytes in
      record { banned = banned; c = out.c; read = read; long = ap length here ∙ sym long; hands = subst (HandedOut banned out.c) (sym here) out.hands }

  -- ---- the law

  checked_if_handed : (bans buffer after : List ℕ) (answer : Answer ℕ) → Made k s bans buffer answer after → Handed answer → (certificate : List ℕ) × Checked k s certificate bans (accepted tt)
  checked_if_handed bans buffer after answer making handed =
      let out = handed_out bans buffer after handed.0 (subst (λ a. Made k s bans buffer a after) handed.1 making) in
      (take handed.0 after, checks_out bans out.banned out.c (take handed.0 after) out.read out.hands)

  handed_if_checked : (bans buffer after certificate : List ℕ) (banned : List Ban) (answer : Answer ℕ) → BansRead k.counts bans (accepted banned) → full_size ≤ length buffer → Made k s bans buffer answer after → Checked k s certificate bans (accepted tt) → Handed answer
  handed_if_checked bans buffer after certificate banned answer read large (bad_bans l m p bad is kept) checked = not_both banned l m p (one_bans_reading k.counts bans (refused l m p) (accepted banned) bad read)
  handed_if_checked bans buffer after certificate banned answer read large (too_small _ _ small is kept) checked = absurd (omega arith)
  handed_if_checked bans buffer after certificate banned answer read large (none banned' read' _ no_one is kept) checked = absurd (none_shown certificate bans banned' read' no_one checked)
  handed_if_checked bans buffer after certificate banned answer read large (made _ n _ _ out is) checked = (n, is)

  said : (bans buffer after : List ℕ) (n : ℕ) (certificate : List ℕ) → Made k s bans buffer (accepted n) after → Checked k s certificate bans (accepted tt) → SaysAll k certificate (take n after)
  said bans buffer after n certificate making checked =
      let out = handed_out bans buffer after n making in
      let is = shown certificate bans out.banned out.read checked in
      record {
        d = is.c;
        c = out.c;
        read = is.encodes;
        read_too = out.hands.back;
        above = out.hands.least.below is.c (holds k s.protection out.banned is.c is.accepts);
      }

  pub makes_least : MakesLeast k s
  makes_least = record {
    exactly = λ bans buffer after banned answer read large making. (
      checked_if_handed bans buffer after answer making,
      λ checked. handed_if_checked bans buffer after checked.0 banned answer read large making checked.1,
    );
    accepted_too = λ bans buffer after n making.
        let out = handed_out bans buffer after n making in
        checks_out bans out.banned out.c (take n after) out.read out.hands;
    least = said;
  }

  -- ---- a making that is refused leaves the buffer as it was

  pub untouched : (bans buffer after : List ℕ) (layer number place : ℕ) → Made k s bans buffer (refused layer number place) after → after ≡ buffer
  untouched bans buffer after layer number place (bad_bans l m p read is kept) = kept
  untouched bans buffer after layer number place (too_small banned read small is kept) = kept
  untouched bans buffer after layer number place (none banned read large no_one is kept) = kept
  untouched bans buffer after layer number place (made banned n read large out is) = not_both n layer number place is
