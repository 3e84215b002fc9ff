-- No making has two answers: which of the four it is, the register, the bans and the buffer say.
use Rattle.std.proofs.Common.{◌≡◌, ℕ, ◌<◌, ◌≤◌, List, length, sym, ap, subst, ◌∙◌, arith}
use Rattle.model.specs.Answers.{Answer, accepted, refused}
use Rattle.certificates.specs.declared.ban.Ban.{Ban}
use Rattle.certificates.specs.BanTapes.{BansRead}
use Rattle.certificates.specs.Certificates.{Certificate}
use Rattle.certificates.proofs.Readings.{one_bans_reading}
use Rattle.register.specs.States.{State, Kept}
use Rattle.writing.specs.Writing.{full_size}
use Rattle.writing.proofs.Lawful.{encoded_apart}
use Rattle.checker.proofs.Answering.{same_read, not_both}
use Rattle.maker.specs.Making.{HandsOut, HandedInto, Made, bad_bans, too_small, none, made, NoneAccepted, OneMaking}
use Rattle.maker.proofs.Making.{made_accepted}
use Rattle.maker.proofs.Sameness.{same_length}

same_refusal : {X Y : Type 0} (l n p m o q : ℕ) → ◌≡◌ {A = Answer X} (refused l n p) (refused m o q) → ◌≡◌ {A = Answer Y} (refused l n p) (refused m o q)
same_refusal l n p m o q same = cc

module _ (k : Kept) (s : State) where
  -- two that are handed out are both the least
  same_size : (bans banned : List Ban) (c d : Certificate) (tape other : List ℕ) → HandsOut k s.protection bans c tape → HandsOut k s.protection banned d other → length tape ≡ length other
  same_size bans banned c d tape other one two =
      ap length one.bytes
      ∙ same_length c d (encoded_apart k.counts tape c one.back) (encoded_apart k.counts other d two.back) (one.least.below d two.least.holds) (two.least.below c one.least.holds)
      ∙ sym (ap length two.bytes)

  same_answer : (bans banned : List Ban) (before x y : List ℕ) (n m : ℕ) → HandedInto k s.protection bans before n x → HandedInto k s.protection banned before m y → n ≡ m
  same_answer bans banned before x y n m one two = one.long ∙ same_size bans banned one.c two.c one.tape two.tape one.hands two.hands ∙ sym two.long

  none_handed : (bans banned : List Ban) (before after : List ℕ) (n : ℕ) → accepted bans ≡ accepted banned → NoneAccepted k s.protection bans → HandedInto k s.protection banned before n after → ⊥
  none_handed bans banned before after n same no_one out =
      subst (NoneAccepted k s.protection) (same_read bans banned same) no_one out.tape out.c out.hands.back (made_accepted k s banned out.c out.tape out.hands)

  module _ (bans buffer : List ℕ) where
    not_lawful : {P : Type 0} (banned : List Ban) (l n p : ℕ) → BansRead k.counts bans (accepted banned) → BansRead k.counts bans (refused l n p) → P
    not_lawful banned l n p read bad = not_both banned l n p (one_bans_reading k.counts bans (refused l n p) (accepted banned) bad read)

    -- each of the four is the only answer of its case
    module _ (b : Answer ℕ) (y : List ℕ) where
      abbrev Making : Type 0
      Making = Made k s bans buffer b y

      refused_for_bans : (layer number place : ℕ) → BansRead k.counts bans (refused layer number place) → Making → refused layer number place ≡ b
      refused_for_bans l n p read (bad_bans m o q read' is kept) = same_refusal l n p m o q (one_bans_reading k.counts bans (refused l n p) (refused m o q) read read') ∙ sym is
      refused_for_bans l n p read (too_small banned read' small is kept) = not_lawful banned l n p read' read
      refused_for_bans l n p read (none banned read' large no_one is kept) = not_lawful banned l n p read' read
      refused_for_bans l n p read (made banned m read' large out is) = not_lawful banned l n p read' read

      module _ (banned : List Ban) (read : BansRead k.counts bans (accepted banned)) where
        refused_for_size : length buffer < full_size → Making → refused 6 20 0 ≡ b
        refused_for_size small (bad_bans l n p bad is kept) = not_lawful banned l n p read bad
        refused_for_size small (too_small _ _ _ is kept) = sym is
        refused_for_size small (none _ _ large no_one is kept) = absurd (omega arith)
        refused_for_size small (made _ n _ large out is) = absurd (omega arith)

        refused_for_none : full_size ≤ length buffer → NoneAccepted k s.protection banned → Making → refused 6 21 0 ≡ b
        refused_for_none large no_one (bad_bans l n p bad is kept) = not_lawful banned l n p read bad
        refused_for_none large no_one (too_small _ _ small is kept) = absurd (omega arith)
        refused_for_none large no_one (none _ _ _ _ is kept) = sym is
        refused_for_none large no_one (made banned' n read' _ out is) = absurd (none_handed banned banned' buffer y n (one_bans_reading k.counts bans (accepted banned) (accepted banned') read read') no_one out)

        handed : (n : ℕ) (x : List ℕ) → full_size ≤ length buffer → HandedInto k s.protection banned buffer n x → Making → accepted n ≡ b
        handed n x large out (bad_bans l m p bad is kept) = not_lawful banned l m p read bad
        handed n x large out (too_small _ _ small is kept) = absurd (omega arith)
        handed n x large out (none banned' read' _ no_one is kept) = absurd (none_handed banned' banned buffer x n (one_bans_reading k.counts bans (accepted banned') (accepted banned) read' read) no_one out)
        handed n x large out (made banned' m _ _ out' is) = ap (λ n. accepted n) (same_answer banned banned' buffer x y n m out out') ∙ sym is

    one_answer : (a b : Answer ℕ) (x y : List ℕ) → Made k s bans buffer a x → Made k s bans buffer b y → a ≡ b
    one_answer a b x y (bad_bans l n p read is kept) other = is ∙ refused_for_bans b y l n p read other
    one_answer a b x y (too_small banned read small is kept) other = is ∙ refused_for_size b y banned read small other
    one_answer a b x y (none banned read large no_one is kept) other = is ∙ refused_for_none b y banned read large no_one other
    one_answer a b x y (made banned n read large out is) other = is ∙ handed b y banned read n x large out other

pub one_making : (k : Kept) → OneMaking k
one_making k s bans buffer a b x y one other = one_answer k s bans buffer a b x y one other
