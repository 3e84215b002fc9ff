use Rattle.std.proofs.Common.{◌≡◌, codes, sym, ◌∙◌, subst}
use Rattle.std.proofs.lemmas.Slice.Eq.{slice_eq-Decides}
use Rattle.std.proofs.lemmas.Bool.Decides.{not_from_Decides, Decides-eqb}
use Rattle.script.specs.Words.{Begins}
use Rattle.script.proofs.Finding.{finds_none, finds_like}
use Rattle.script.proofs.Giving.{size_at}
use Rattle.script.proofs.Parting.{one_beginning}
use Rattle.script.proofs.settings.list_size.Goals as goal

pub returns-in_err-word : goal.returns-in_err-word
returns-in_err-word c =
    finds_none _ _ c.from_residual.ensures (λ n s. c.in_err-word.ensures (codes "list", s.more) s.begun)

pub returns-then-eq : goal.returns-then-eq
returns-then-eq c =
    let begun = c.in_ok-word.ensures in
    let list : c.in_ok-word.word.now ≡ codes "list" = (slice_eq-Decides Decides-eqb _ _ _ c.eq.ensures).0 c.if-eq.true ∙ c.as_slice.ensures in
    finds_like _ _ c.lone_number.result
    (λ n l. record { more = c.in_ok-word.more.now; begun = subst (λ w. Begins c.args.rest.now w c.in_ok-word.more.now) list begun; number = l })
    (λ n s. size_at begun s)
    c.lone_number.ensures

pub returns-else-eq : goal.returns-else-eq
returns-else-eq c = λ n s.
    not_from_Decides _ (slice_eq-Decides Decides-eqb _ _ _ c.eq.ensures) c.if-eq.false ((one_beginning c.in_ok-word.ensures s.begun).0 ∙ sym c.as_slice.ensures)
