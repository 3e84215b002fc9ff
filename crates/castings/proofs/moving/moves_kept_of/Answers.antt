use Rattle.std.proofs.Common.{rules, ◌≡◌, true, is_some, ap, sym, ◌∙◌}
use Rattle.std.proofs.lemmas.Result.{MatchResult-weaker}
use Rattle.scheme.specs.Views.{view}
use Rattle.protection.specs.Excerpts.{renewed}
use Rattle.protection.specs.Tables.{protection_of}
use Rattle.certificates.specs.Certificates.{stamp_at}
use Rattle.certificates.specs.Views.{certificate_of}
use Rattle.castings.specs.Castings.{cast_state}
use Rattle.castings.specs.Numbers.{stamps_by}
use Rattle.castings.proofs.Moves.{not_standing, not_kept, moves_on_all, move_lost}
use Rattle.castings.proofs.Noting.{known_move}
use Rattle.castings.proofs.moving.moves_kept_of.Goals.{then-knows-via-then-knows, then-knows-via-else-knows+then-is_none, then-knows-via-else-knows+else-is_none+then-is_renewed}
use Rattle.castings.proofs.moving.moves_kept_of.Goals as goal

pub returns-then-knows : goal.returns-then-knows
returns-then-knows c =
    let t = certificate_of c.args.certificate.now in
    let q = renewed (view c.args.command.now).steps in
    let before = cast_state t (stamps_by t c.args.old) in
    let after = protection_of c.args.after in
    elim c.then-knows.branch [
      | then-knows-via-then-knows w ↦
          moves_on_all t q before after c.args.i (stamp_at t c.number_at-was.result) (stamp_at t c.number_at-is.result)
          (ap (stamp_at t) c.number_at-was.ensures)
          (ap (stamp_at t) c.number_at-is.ensures ∙ ap (λ f. f c.args.i) c.requires.after)
          (known_move t c.args.shifts.now.rows c.number_at-was.result c.number_at-is.result c.requires.known (sym c.knows.ensures ∙ w.if-knows.true))
      | then-knows-via-else-knows+then-is_none w ↦ not_standing t q before after c.args.i (ap is_some (sym w.entry.ensures) ∙ w.if-is_none.ensures)
      | then-knows-via-else-knows+else-is_none+then-is_renewed w ↦ not_kept t q before after c.args.i (sym w.is_renewed.ensures ∙ w.if-is_renewed.true)
    ]

pub returns : goal.returns
returns c =
    let t = certificate_of c.args.certificate.now in
    let q = renewed (view c.args.command.now).steps in
    let before = cast_state t (stamps_by t c.args.old) in
    let after = protection_of c.args.after in
    let was : stamp_at t c.number_at-was.result ≡ before.entry c.args.i = ap (stamp_at t) c.number_at-was.ensures in
    let is : stamp_at t c.number_at-is.result ≡ after.entry c.args.i = ap (stamp_at t) c.number_at-is.ensures ∙ ap (λ f. f c.args.i) c.requires.after in
    let stands : is_some (after.entry c.args.i) ≡ true = search rules in
    MatchResult-weaker c.move_kept_on_all.result c.move_kept_on_all.ensures
    (λ x kept. moves_on_all t q before after c.args.i (stamp_at t c.number_at-was.result) (stamp_at t c.number_at-is.result) was is kept)
    (λ b lost. move_lost t q before after c.args.i (stamp_at t c.number_at-was.result) (stamp_at t c.number_at-is.result) was is (sym c.is_renewed.ensures ∙ c.if-is_renewed.false) stands b lost)
