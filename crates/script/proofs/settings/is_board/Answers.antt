use Rattle.std.proofs.Common.{◌≡◌, ◌↔◌, ℕ, Bool, Bor, List, Some, None, Option, Decides, refl, sym, subst}
use Rattle.std.specs.Prelude.{IsTrue}
use Rattle.std.specs.Option.{option_map, option_eq}
use Rattle.std.proofs.lemmas.Slice.Eq.{slice_eq-Decides}
use Rattle.std.proofs.lemmas.Bool.{false≢true}
use Rattle.std.proofs.lemmas.Bool.Decides.{Decides-like, Decides-eqb}
use Rattle.script.specs.Finds.{Finds}
use Rattle.script.specs.Words.{Alone}
use Rattle.script.proofs.Parting.{one_alone}
use Rattle.script.proofs.settings.is_board.Goals as goal

-- whether the word that was found is this one
is_word : (text : List ℕ) (found : Option (Bor (List ℕ))) (word : Bor (List ℕ)) (eq : Bor (List ℕ) → Bor (List ℕ) → Bool) → ((x y : Bor (List ℕ)) → Decides (eq x y) (x.now ≡ y.now)) → Finds (Alone text) (option_map (λ x. x.now) found) → Decides (option_eq eq found (Some word)) (Alone text word.now)
is_word text None word eq same none = (λ is. absurd (false≢true is), λ alone. absurd (none _ alone))
is_word text (Some x) word eq same alone = Decides-like _ (λ is. subst (Alone text) is alone) (one_alone alone) (same x word)

pub returns : goal.returns
returns c =
    subst (λ w. IsTrue c.eq.result ↔ Alone c.args.rest.now w) c.as_slice.ensures
    (subst (λ r. IsTrue r ↔ Alone c.args.rest.now c.as_slice.result.now) (sym c.eq.ensures)
    (is_word _ c.lone_word.result c.as_slice.result _ (λ x y. slice_eq-Decides Decides-eqb _ _ _ refl) c.lone_word.ensures))
