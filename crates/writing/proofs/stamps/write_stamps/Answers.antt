use Rattle.std.proofs.Common.{length, take, ap, subst, arith}
use Rattle.std.proofs.lemmas.List.{length-take-le}
use Rattle.certificates.specs.Views.{certificate_of}
use Rattle.certificates.proofs.Listed.{listed_at}
use Rattle.writing.specs.Buffers.{Put}
use Rattle.writing.proofs.Buffers.{put_after}
use Rattle.writing.proofs.Lengths.{stored_few}
use Rattle.writing.proofs.Spelling.{stamps_long, stamps_more}
use Rattle.writing.proofs.stamps.write_stamps.Goals as goal

pub stamp_bytes-requires : goal.stamp_bytes-requires
stamp_bytes-requires c = c.requires.spelt _ (listed_at (certificate_of c.args.certificate.now) c.stamps-stamp-items.result.now c.loop-stamp.stamp-index _ c.stamps-stamp-items.ensures c.loop-stamp-test.true)

pub put-at-requires : goal.put-at-requires
put-at-requires c =
    let stamps = c.stamps-stamp-items.result.now in
    let k = c.loop-stamp.stamp-index in
    omega (arith, c.requires.room, c.loop-stamp.auto.buffer, ap length c.stamp_bytes.ensures, c.loop-stamp.invariant.up_to, stamps_long (take k stamps), length-take-le k stamps (omega (arith, c.loop-stamp-test.true)), c.loop-stamp-test.true, ap length c.stamps-stamp-items.ensures, stored_few c.args.certificate.now)

pub loop-stamp-preserved : goal.loop-stamp-preserved
loop-stamp-preserved c =
    let stamps = c.stamps-stamp-items.result.now in
    let k = c.loop-stamp.stamp-index in
    subst (λ bytes. Put 0 bytes c.args.buffer.now c.put-at.result c.put-at.new.buffer) (stamps_more stamps k _ c.loop-stamp-test.true)
    (put_after (omega arith) c.loop-stamp.invariant (subst (λ bytes. Put c.loop-stamp.at bytes c.loop-stamp.buffer c.put-at.result c.put-at.new.buffer) c.stamp_bytes.ensures c.put-at.ensures))
