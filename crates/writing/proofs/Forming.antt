-- The items of a certificate are well-formed, one after the other.
use Rattle.std.proofs.Common.{◌≡◌, ℕ, suc, ◌+◌, ◌≤◌, Bool, true, is_none, List, [], ◌∷◌, ◌++◌, length, map, slice_get, Some, None, sym, refl, ap, ◌∙◌, subst, append_assoc, append-nil, length-append, arith}
use Rattle.std.specs.List.{All}
use Rattle.std.proofs.lemmas.Bool.{and_parts, and_from, false_from_ne_true, lt-leb, not_from_true}
use Rattle.std.proofs.lemmas.List.{get_or_at}
use Rattle.std.proofs.lemmas.Option.{slice_get_within, slice_get-get_or}
use Rattle.model.specs.declared.counts.Counts.{Counts}
use Rattle.model.specs.declared.kind.Kind.{Kind}
use Rattle.model.specs.declared.kind.Kind.TheVariants.{Subject, Object}
use Rattle.model.specs.declared.stamp.Stamp.{Stamp}
use Rattle.model.specs.Counts.{in_scales}
use Rattle.model.specs.Kinds.{kind_number}
use Rattle.model.specs.Lists.{each_after}
use Rattle.model.proofs.Unbroken.{from_unbroken}
use Rattle.certificates.specs.Certificates.{Certificate, lists, Apart}
use Rattle.certificates.specs.Items.{Item, with_item, listed_by}
use Rattle.certificates.specs.Rules.{is_kind, item_rules, broken_after}
use Rattle.certificates.specs.Said.{rule}
use Rattle.certificates.proofs.Language.{listed_push}
use Rattle.certificates.proofs.Listed.{there_listed}
use Rattle.certificates.proofs.Stamps.{still_there}
use Rattle.writing.specs.Writing.{stamp_item}
use Rattle.writing.proofs.Spelling.{stamp_back}

-- some after others
pub formed_append : {X : Type 0} (f : List X → X → Bool) (before xs ys : List X) → each_after f before xs ≡ true → each_after f (before ++ xs) ys ≡ true → each_after f before (xs ++ ys) ≡ true
formed_append f before [] ys first second = subst (λ l. each_after f l ys ≡ true) (append-nil before) second
formed_append f before (x ∷ xs) ys first second =
    let parts = and_parts _ _ first in
    and_from _ _ parts.0 (formed_append f (before ++ x ∷ []) xs ys parts.1 (subst (λ l. each_after f l ys ≡ true) (sym (append_assoc before (x ∷ []) xs)) second))

kind_is : (k : Kind) → is_kind (kind_number k) ≡ true
kind_is Subject = refl
kind_is Object = refl

stamp_after : (c : Certificate) (done rest : List Stamp) (s : Stamp) → c.stamps ≡ done ++ s ∷ rest → slice_get c.stamps (length done) ≡ Some s
stamp_after c done rest s split =
    ap (λ xs. slice_get xs (length done)) split
    ∙ slice_get-get_or (done ++ s ∷ rest) (length done) s (omega (arith, length-append done (s ∷ rest)))
    ∙ ap (λ x. Some x) (get_or_at done s rest s (length done) refl)

module _ (counts : Counts) where
  abbrev pub fits : List Item → Item → Bool
  fits before i = is_none (broken_after counts before i)

  -- An item that breaks no rule where these stamps are listed, and lists none.
  pub record Fit (stamps : List Stamp) (i : Item) : Type 0 where
    pub unbroken : (t : Certificate) → t.stamps ≡ stamps → rule counts t i ≡ None
    pub keeps : (t : Certificate) → (with_item t i).stamps ≡ t.stamps

  pub allows_formed : (stamps : List Stamp) (items : List Item) → All (Fit stamps) items → (before : List Item) → (listed_by before).stamps ≡ stamps → each_after fits before items ≡ true
  allows_formed stamps [] all before same = refl
  allows_formed stamps (i ∷ items) all before same =
      let fit : Fit stamps i = all 0 i (omega arith) in
      and_from _ _ (ap is_none (fit.unbroken (listed_by before) same))
      (allows_formed stamps items (λ k d low. all (suc k) d (omega (arith, low))) (before ++ i ∷ [])
      (ap (λ (t : Certificate). t.stamps) (listed_push before i) ∙ fit.keeps (listed_by before) ∙ same))

  -- Stamps of a certificate that are each in their scales, and read back as they are.
  module _ (c : Certificate) (few : length c.stamps ≤ 32) (apart : Apart c.stamps) (fine : (n : ℕ) (s : Stamp) → slice_get c.stamps n ≡ Some s → (in_scales counts s ≡ true) × (stamp_back s ≡ s)) where
    -- one that comes after these, which are not it
    unbroken_stamp : (done rest : List Stamp) (s : Stamp) → c.stamps ≡ done ++ s ∷ rest → (t : Certificate) → t.stamps ≡ done → rule counts t (stamp_item s) ≡ None
    unbroken_stamp done rest s split t same =
        let long : length c.stamps ≡ length done + suc (length rest) = ap length split ∙ length-append done (s ∷ rest) in
        let there = stamp_after c done rest s split in
        let ok = fine (length done) s there in
        let new : lists t s ≡ true → ⊥ =
        λ is.
        let found = there_listed t s is in
        let before : slice_get done found.0 ≡ Some s = ap (λ xs. slice_get xs found.0) (sym same) ∙ found.1 in
        let again = ap (λ xs. slice_get xs found.0) split ∙ still_there done (s ∷ rest) found.0 s before in
        omega (arith, apart found.0 (length done) s again there, slice_get_within done found.0 s before) in
        from_unbroken (item_rules counts t (stamp_item s)) (
          lt-leb 32 (length t.stamps) (omega (arith, few, long, ap length same)),
          (
            not_from_true _ (and_from _ _ (kind_is s.kind) (ap (in_scales counts) ok.1 ∙ ok.0)),
            (ap (lists t) ok.1 ∙ false_from_ne_true (lists t s) new, tt),
          ),
        )

    pub stamps_formed : (done rest : List Stamp) (before : List Item) → (listed_by before).stamps ≡ done → c.stamps ≡ done ++ rest → each_after fits before (map stamp_item rest) ≡ true
    stamps_formed done [] before same split = refl
    stamps_formed done (s ∷ rest) before same split =
        let t = listed_by before in
        and_from _ _ (ap is_none (unbroken_stamp done rest s split t same))
        (stamps_formed (done ++ s ∷ []) rest (before ++ stamp_item s ∷ [])
        (ap (λ (x : Certificate). x.stamps) (listed_push before (stamp_item s))
        ∙ (λ i. same i ++ (fine (length done) s (stamp_after c done rest s split)).1 i ∷ []))
        (split ∙ sym (append_assoc done (s ∷ []) rest)))
