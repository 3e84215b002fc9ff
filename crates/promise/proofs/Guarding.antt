-- A certificate that contains a register guards it: what its entries may use is allowed, and no ban is met that the certificate
-- does not meet.
use Rattle.std.proofs.Common.{◌≡◌, ℕ, true, List, Some, None, Option, nat_lt, slice_get, sym, ap, ◌∙◌, ⊎_elim}
use Rattle.std.proofs.lemmas.Bool.{and_parts}
use Rattle.model.specs.declared.stamp.Stamp.{Stamp}
use Rattle.model.specs.Masks.{has}
use Rattle.rulings.specs.declared.question.Question.{Question}
use Rattle.rulings.specs.Questions.{held}
use Rattle.protection.specs.States.{Protection}
use Rattle.certificates.specs.declared.ban.Ban.{Ban}
use Rattle.certificates.specs.Certificates.{Certificate, between, allows}
use Rattle.register.specs.Reads.{asked_of, ruled}
use Rattle.register.specs.States.{Kept}
use Rattle.checker.specs.Containing.{Contains}
use Rattle.checker.specs.Judgements.{MeetsNone}
use Rattle.checker.proofs.Safety.{breaks_none}
use Rattle.promise.specs.Promises.{MayUse, MeetsBan, Guards}

-- The ruling that is kept says yes only where the cell holds the right.
abbrev pub AllGrant : Kept → Type 0
AllGrant k = (q : Question) → k.says q ≡ true → held q ≡ true

module _ (k : Kept) (grants : AllGrant k) where
  asked_holds : (s o r cell : ℕ) (row column : Option Stamp) → asked_of k.says s o r cell row column ≡ true → has cell r ≡ true
  asked_holds s o r cell None column says = cc
  asked_holds s o r cell (Some row) None says = cc
  asked_holds s o r cell (Some row) (Some column) says =
      (and_parts (nat_lt r 16) (has cell r) (grants (record { row = s; column = o; right = r; row_stamp = row; column_stamp = column; cell = cell }) says)).1

  -- whoever may use a right has it in the cell
  may_use_holds : (p : Protection) (s o r : ℕ) → MayUse k p s o r → has (p.cells s o) r ≡ true
  may_use_holds p s o r =
      ⊎_elim
      (λ (holds : has (p.cells s o) r ≡ true). holds)
      (λ (says : ruled k.says p s o r ≡ true). asked_holds s o r (p.cells s o) (p.entry s) (p.entry o) (and_parts (nat_lt r 16) (asked_of k.says s o r (p.cells s o) (p.entry s) (p.entry o)) says).1)

  module _ (p : Protection) (c : Certificate) (contains : Contains c p) where
    allowed : (s o r : ℕ) (u v : Stamp) → p.entry s ≡ Some u → p.entry o ≡ Some v → MayUse k p s o r → has (allows c u v) r ≡ true
    allowed s o r u v row column uses =
        let same : between c (p.entry s) (p.entry o) ≡ between c (Some u) (Some v) = λ i. between c (row i) (column i) in
        ap (λ m. has m r) (sym same) ∙ contains.cells s o r (may_use_holds p s o r uses)

    unmet : (bans : List Ban) → MeetsNone c bans → (number : ℕ) (ban : Ban) → slice_get bans number ≡ Some ban → MeetsBan k p ban → ⊥
    unmet bans none number ban there met =
        breaks_none c p ban contains
        (λ meets. none number (ban, there, meets))
        (record {
          row = met.row;
          column = met.column;
          u = met.u;
          v = met.v;
          holder = met.stands;
          held = met.stands_too;
          fit = met.fit;
          right = may_use_holds p met.row met.column ban.right met.uses;
        })

    pub guards : (bans : List Ban) → MeetsNone c bans → Guards k p c bans
    guards bans none = record { stamps = contains.stamps; rights = allowed; unmet = unmet bans none }
