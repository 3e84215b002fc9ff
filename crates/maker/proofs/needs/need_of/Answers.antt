use Rattle.std.proofs.Common.{◌≡◌, sym, ap, subst, ◌∙◌}
use Rattle.scheme.specs.Views.{view}
use Rattle.protection.specs.Commands.{run}
use Rattle.protection.specs.Excerpts.{itself, renewed}
use Rattle.protection.specs.Tables.{protection_of}
use Rattle.protection.proofs.Shaping.{steps_shaped}
use Rattle.certificates.specs.Views.{certificate_of}
use Rattle.castings.specs.Castings.{cast_state}
use Rattle.castings.specs.Closure.{outcome_of}
use Rattle.castings.specs.Escapes.{IsBreach, casting_of}
use Rattle.maker.specs.Needs.{Mends}
use Rattle.maker.proofs.Needing.{mending_needed}
use Rattle.maker.proofs.needs.need_of.Goals as goal

pub mending-requires : goal.mending-requires
mending-requires g c =
    let t = certificate_of c.args.table.now in
    let m = view c.args.command.now in
    let σ = casting_of c.args.escape.now in
    let q = renewed m.steps in
    let made : protection_of c.outcome-after.result ≡ outcome_of t m σ = c.outcome-after.ensures.steps ∙ ap (run m.cards itself m.steps) c.seen-before.ensures in
    let b = c.args.escape.now.breach in
    (q, subst (λ p. IsBreach t q p (protection_of c.outcome-after.result) b) (sym c.seen-before.ensures) (subst (λ p. IsBreach t q (cast_state t σ) p b) (sym made) c.requires.breach))

pub returns : goal.returns
returns g c =
    let t = certificate_of c.args.table.now in
    let m = view c.args.command.now in
    let σ = casting_of c.args.escape.now in
    let made : protection_of c.outcome-after.result ≡ outcome_of t m σ = c.outcome-after.ensures.steps ∙ ap (run m.cards itself m.steps) c.seen-before.ensures in
    let b = c.args.escape.now.breach in
    let need = c.mending.result in
    mending_needed g.S.Scales.covering t m c.args.command.now.parameters.count (steps_shaped c.args.command.now) σ c.requires.casts c.requires.passes
    b need c.requires.breach
    (subst (λ p. Mends t p (outcome_of t m σ) b need) c.seen-before.ensures (subst (λ p. Mends t (protection_of c.seen-before.result) p b need) made c.mending.ensures))
