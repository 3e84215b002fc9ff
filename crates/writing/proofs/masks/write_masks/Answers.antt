use Rattle.std.proofs.Common.{length, ap, arith}
use Rattle.certificates.specs.Views.{certificate_of}
use Rattle.writing.specs.Writing.{row_items}
use Rattle.writing.proofs.Below.{put_none_below, put_more_below}
use Rattle.writing.proofs.Lengths.{stored_few, rows_long}
use Rattle.writing.proofs.masks.write_masks.Goals as goal

pub loop-u-init : goal.loop-u-init
loop-u-init c = put_none_below (row_items (certificate_of c.args.certificate.now)) c.args.start c.args.buffer.now

pub write_row-at-requires-clause-room : goal.write_row-at-requires-clause-room
write_row-at-requires-clause-room c =
    let few = stored_few c.args.certificate.now in
    omega (arith, c.requires.room, c.loop-u.auto.buffer, c.loop-u.invariant.up_to, rows_long (certificate_of c.args.certificate.now) few c.loop-u.u, c.loop-u-test.true, ap length c.stamps-u-end.ensures, few)

pub loop-u-preserved : goal.loop-u-preserved
loop-u-preserved c = put_more_below (row_items (certificate_of c.args.certificate.now)) c.loop-u.u (omega (arith, c.requires.room)) c.loop-u.invariant c.write_row-at.ensures
