use Rattle.std.proofs.Common.{◌≡◌, ap, subst, ◌∙◌}
use Rattle.std.proofs.lemmas.Result.{err_from_is_err_and, MatchResult-weaker}
use Rattle.scheme.specs.Views.{view}
use Rattle.protection.specs.Commands.{run}
use Rattle.protection.specs.Excerpts.{itself, renewed}
use Rattle.protection.specs.Tables.{protection_of}
use Rattle.certificates.specs.Views.{certificate_of}
use Rattle.castings.specs.Castings.{cast_state}
use Rattle.castings.specs.Closure.{Keeps, outcome_of}
use Rattle.castings.specs.Escapes.{IsBreach}
use Rattle.castings.specs.Numbers.{stamps_by}
use Rattle.castings.proofs.Moves.{all_kept}
use Rattle.castings.proofs.closure.outcome_kept.Goals as goal

pub returns-in_err-new : goal.returns-in_err-new
returns-in_err-new c =
    let t = certificate_of c.args.certificate.now in
    let m = view c.args.command.now in
    let before = cast_state t (stamps_by t c.args.numbers) in
    let made : protection_of c.outcome-after.result ≡ outcome_of t m (stamps_by t c.args.numbers) = c.outcome-after.ensures.steps ∙ ap (run m.cards itself m.steps) c.requires.before in
    let p = err_from_is_err_and c.from_residual.result c.from_residual.ensures.1 in
    rw (p.1, p.2) (subst (λ s. IsBreach t (renewed m.steps) before s c.in_err-new.field-0.0) made (c.in_err-new.ensures (renewed m.steps) before))

pub returns-in_err-cells_kept : goal.returns-in_err-cells_kept
returns-in_err-cells_kept c =
    let t = certificate_of c.args.certificate.now in
    let m = view c.args.command.now in
    let before = cast_state t (stamps_by t c.args.numbers) in
    let made : protection_of c.outcome-after.result ≡ outcome_of t m (stamps_by t c.args.numbers) = c.outcome-after.ensures.steps ∙ ap (run m.cards itself m.steps) c.requires.before in
    let p = err_from_is_err_and c.from_residual-in_err-cells_kept.result c.from_residual-in_err-cells_kept.ensures.1 in
    rw (p.1, p.2) (subst (λ s. IsBreach t (renewed m.steps) before s c.in_err-cells_kept.field-0.0) made (c.in_err-cells_kept.ensures (renewed m.steps) before))

pub returns : goal.returns
returns c =
    let t = certificate_of c.args.certificate.now in
    let m = view c.args.command.now in
    let before = cast_state t (stamps_by t c.args.numbers) in
    let q = renewed m.steps in
    let made : protection_of c.outcome-after.result ≡ outcome_of t m (stamps_by t c.args.numbers) = c.outcome-after.ensures.steps ∙ ap (run m.cards itself m.steps) c.requires.before in
    MatchResult-weaker c.moves_kept.result c.moves_kept.ensures
    (λ x moves. subst (Keeps t q before) made (all_kept t q before (protection_of c.outcome-after.result) c.in_ok-new.new c.in_ok-new.ensures c.in_ok-cells_kept.ensures moves))
    (λ b lost. subst (λ p. IsBreach t q before p b) made lost)
