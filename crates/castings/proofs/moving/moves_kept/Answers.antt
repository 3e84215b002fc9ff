use Rattle.std.proofs.Common.{rules, ◌≡◌, length, arith}
use borrow.Author.Count.{below_more}
use Rattle.scheme.specs.Views.{view}
use Rattle.protection.specs.Excerpts.{renewed}
use Rattle.protection.specs.Tables.{protection_of}
use Rattle.certificates.specs.Views.{certificate_of}
use Rattle.castings.specs.Castings.{cast_state}
use Rattle.castings.specs.Conditions.{MovesKept}
use Rattle.castings.specs.Numbers.{stamps_by}
use Rattle.castings.proofs.Listing.{beyond_entries}
use Rattle.castings.proofs.Moves.{all_move}
use Rattle.castings.proofs.moving.moves_kept.Goals as goal

pub loop-i-preserved : goal.loop-i-preserved
loop-i-preserved c =
    let t = certificate_of c.args.certificate.now in
    below_more (MovesKept t (renewed (view c.args.command.now).steps) (cast_state t (stamps_by t c.args.old)) (protection_of c.args.after)) c.loop-i.i c.loop-i.invariant
    c.in_ok-moves_kept_of.ensures

pub returns : goal.returns
returns c =
    let t = certificate_of c.args.certificate.now in
    let long : length c.args.after.entries ≡ 3 = search rules in
    all_move t (renewed (view c.args.command.now).steps) (cast_state t (stamps_by t c.args.old)) (protection_of c.args.after) c.loop-i.i (omega arith)
    (λ j past. beyond_entries c.args.after j long past)
    c.loop-i.invariant
