-- No bytes have two right answers, whatever the tape, and they are accepted exactly if they encode something.
use Rattle.std.proofs.Common.{◌≡◌, ℕ, ◌≤◌, List, length, sym, ap, ◌∙◌, subst, inl, inr, arith}
use Rattle.model.specs.Answers.{Answer, accepted, refused}
use Rattle.tapes.specs.Answering.{TapeRead, AcceptedAsEncoded, OneAnswer}
use Rattle.tapes.specs.Grammars.{Grammar, Refused, Whole}
use Rattle.tapes.proofs.Languages.{Language}
use Rattle.tapes.proofs.Reading.{stopped_once, whole_once, whole_or_stopped}

-- What a tape brings for this: bytes that encode something are not too many, and are read whole; what they encode hangs on
-- what has been read alone.
pub record Encoding {I D X : Type 0} (g : Grammar I D) (Encodes : List ℕ → X → Type 0) : Type 0 where
  pub of : D → X
  pub short : (bytes : List ℕ) (x : X) → Encodes bytes x → length bytes ≤ 65535
  pub read : (bytes : List ℕ) (x : X) → Encodes bytes x → (d : D) × (Whole g bytes d × (of d ≡ x))

module _ {I D X : Type 0} (l : Language I D) (Encodes : List ℕ → X → Type 0) (e : Encoding l.grammar Encodes) where
  refused_once : (bytes : List ℕ) (n p m q : ℕ) → Refused l.grammar bytes n p → Refused l.grammar bytes m q → (n ≡ m) × (p ≡ q)
  refused_once bytes n p m q (inl a) (inl b) = (a.1 ∙ sym b.1, a.2 ∙ sym b.2)
  refused_once bytes n p m q (inl a) (inr b) = absurd (omega (arith, a.0, b.0))
  refused_once bytes n p m q (inr a) (inl b) = absurd (omega (arith, a.0, b.0))
  refused_once bytes n p m q (inr a) (inr b) = stopped_once l bytes n p m q a.1 b.1

  not_both : (bytes : List ℕ) (x : X) (n p : ℕ) → Encodes bytes x → Refused l.grammar bytes n p → ⊥
  not_both bytes x n p a (inl b) = omega (arith, b.0, e.short bytes x a)
  not_both bytes x n p a (inr b) = let read = e.read bytes x a in whole_or_stopped l bytes read.0 n p read.1.0 b.1

  encoded_once : (bytes : List ℕ) (x y : X) → Encodes bytes x → Encodes bytes y → x ≡ y
  encoded_once bytes x y a b =
      let one = e.read bytes x a in
      let other = e.read bytes y b in
      sym one.1.1 ∙ ap e.of (whole_once l bytes one.0 other.0 one.1.0 other.1.0) ∙ other.1.1

  pub one_answer : OneAnswer l.tape l.grammar Encodes
  one_answer bytes (accepted x) (accepted y) a b = ap (λ z. accepted z) (encoded_once bytes x y a b)
  one_answer bytes (accepted x) (refused layer n p) a b = absurd (not_both bytes x n p a b.1)
  one_answer bytes (refused layer n p) (accepted y) a b = absurd (not_both bytes y n p b a.1)
  one_answer bytes (refused layer n p) (refused layer' m q) a b =
      let same = refused_once bytes n p m q a.1 b.1 in
      let in_layer : layer ≡ layer' = a.0 ∙ sym b.0 in
      λ i. refused (in_layer i) (same.0 i) (same.1 i)

  pub accepted_as_encoded : (bytes : List ℕ) (answer : Answer X) → TapeRead l.tape l.grammar Encodes bytes answer → AcceptedAsEncoded Encodes bytes answer
  accepted_as_encoded bytes answer read x =
      (λ is. subst (TapeRead l.tape l.grammar Encodes bytes) is read, λ encodes. one_answer bytes answer (accepted x) read encodes)
