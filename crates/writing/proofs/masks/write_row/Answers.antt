use Rattle.std.proofs.Common.{length, ap, subst, arith}
use Rattle.certificates.specs.Views.{certificate_of}
use Rattle.writing.specs.Buffers.{Put, bytes_of}
use Rattle.writing.specs.Writing.{mask_items, cell_items}
use Rattle.writing.proofs.Below.{put_none_below, put_more_below}
use Rattle.writing.proofs.Lengths.{stored_few, cells_long}
use Rattle.writing.proofs.masks.write_row.Goals as goal

pub loop-v-init : goal.loop-v-init
loop-v-init c = put_none_below (cell_items (certificate_of c.args.certificate.now) c.args.u) c.args.start c.args.buffer.now

pub write_mask-at-requires-clause-room : goal.write_mask-at-requires-clause-room
write_mask-at-requires-clause-room c =
    omega (arith, c.requires.room, c.loop-v.auto.buffer, c.loop-v.invariant.up_to, cells_long (certificate_of c.args.certificate.now) c.args.u c.loop-v.v, c.loop-v-test.true, ap length c.stamps-v-end.ensures, stored_few c.args.certificate.now)

pub loop-v-preserved : goal.loop-v-preserved
loop-v-preserved c =
    put_more_below (cell_items (certificate_of c.args.certificate.now) c.args.u) c.loop-v.v (omega (arith, c.requires.room)) c.loop-v.invariant
    (subst (λ mask. Put c.loop-v.at (bytes_of (mask_items c.args.u c.loop-v.v mask)) c.loop-v.buffer c.write_mask-at.result c.write_mask-at.new.buffer) c.between_numbers-mask.ensures c.write_mask-at.ensures)
