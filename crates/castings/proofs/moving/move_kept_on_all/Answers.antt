use Rattle.std.proofs.Common.{◌≤◌, length, ap, arith}
use Rattle.certificates.specs.Certificates.{stamp_at}
use Rattle.certificates.specs.Views.{certificate_of}
use Rattle.castings.proofs.Moves.{on_all}
use Rattle.castings.proofs.moving.move_kept_on_all.Goals as goal

pub returns : goal.returns
returns c =
    let t = certificate_of c.args.certificate.now in
    let all : length t.stamps ≤ c.loop-other.other = omega (arith, ap length c.stamps-other-end.ensures) in
    on_all t (stamp_at t c.args.old) (stamp_at t c.args.new) c.loop-other.other all c.loop-other.invariant
