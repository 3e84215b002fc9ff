-- What a reader answers that can run out of memory, from what another answered.
use Rattle.std.proofs.Common.{◌≡◌, Ok, Err, Result, Option, None, sym, ap, ◌∙◌, subst}
use Rattle.std.specs.Prelude.{IsErrAnd}
use Rattle.std.specs.Option.{ok_or}
use Rattle.std.proofs.lemmas.Result.{err_from_is_err_and}
use Rattle.script.specs.declared.error.ReadError.{ReadError}
use Rattle.script.specs.declared.error.ReadError.TheVariants.{OutOfMemory, Unreadable}
use Rattle.script.specs.Reads.{Reads}
use Rattle.script.specs.Finds.{Finds}
use Rattle.script.proofs.Finding.{none_at}

module _ {T X : Type 0} (view : T → X) (P : X → Type 0) (W : Type 0) where
  -- a refusal of another reader, which says as much here
  refusal : {S Y : Type 0} (look : S → Y) {Q : Y → Type 0} {V : Type 0} (e : ReadError) → Reads look Q V (Err e) → ((x : X) → P x → (y : Y) × Q y) → (V → W) → Reads view P W (Err e)
  refusal look Unreadable none from wants = λ x p. let q = from x p in none q.0 q.1
  refusal look (OutOfMemory cause) v from wants = wants v

  -- the exit of a `?` on that reader
  pub refused : {S Y : Type 0} (look : S → Y) {Q : Y → Type 0} {V : Type 0} (r : Result T ReadError) (e : ReadError) → IsErrAnd r (λ d. d ≡ e) → Reads look Q V (Err e) → ((x : X) → P x → (y : Y) × Q y) → (V → W) → Reads view P W r
  refused look r e is reads from wants =
      let p = err_from_is_err_and r is in subst (Reads view P W) (sym (p.1 ∙ ap Err p.2)) (refusal look e reads from wants)

  -- the exit of a `?` on an `ok_or`
  pub unreadable : (r : Result T ReadError) {A : Type 0} (o : Option A) (e : ReadError) → IsErrAnd r (λ d. d ≡ e) → Err e ≡ ok_or o Unreadable → o ≡ None → ((x : X) → P x → ⊥) → Reads view P W r
  unreadable r o e is was none refused =
      let p = err_from_is_err_and r is in
      let given : Err e ≡ Err Unreadable = was ∙ ap (λ o. ok_or o Unreadable) none in
      let same : e ≡ Unreadable = cc in
      subst (Reads view P W) (sym (p.1 ∙ ap Err (p.2 ∙ same))) refused

  -- and where a reader that finds things found none
  pub unfound : (r : Result T ReadError) {A : Type 0} (Q : A → Type 0) (o : Option A) (e : ReadError) → IsErrAnd r (λ d. d ≡ e) → Err e ≡ ok_or o Unreadable → o ≡ None → Finds Q o → ((x : X) → P x → (y : A) × Q y) → Reads view P W r
  unfound r Q o e is was none found from =
      unreadable r o e is was none (λ x p. let q = from x p in none_at Q none found q.0 q.1)

  -- an answer in other words
  pub reads_like : {Q : X → Type 0} {V : Type 0} (r : Result T ReadError) → Reads view Q V r → ((x : X) → Q x → P x) → ((x : X) → P x → Q x) → (V → W) → Reads view P W r
  reads_like (Ok x) reads to from wants = to (view x) reads
  reads_like (Err e) reads to from wants = refusal view e reads (λ x p. (x, from x p)) wants
