use Rattle.std.proofs.Common.{arith}
use Rattle.std.proofs.lemmas.Bool.{MatchBool-at_true}
use Rattle.certificates.specs.Views.{certificate_of}
use Rattle.writing.proofs.Lengths.{stored_few}
use Rattle.writing.proofs.Spelling.{stamps_long}
use Rattle.writing.proofs.Written.{written_into}
use Rattle.writing.proofs.writer.write_certificate.Goals as goal

pub write_masks-requires : goal.write_masks-requires
write_masks-requires c =
    record { room = omega (arith, c.if-buffer-lt-FULL_SIZE.false, c.write_stamps-at.ensures.up_to, c.write_stamps-at.auto.buffer, stamps_long (certificate_of c.args.certificate.now).stamps, stored_few c.args.certificate.now) }

pub returns : goal.returns
returns c =
    let fine = MatchBool-at_true _ _ c.if-not-are_in_scales.false c.are_in_scales.ensures in
    record { writes = written_into c.args.counts.now c.args.certificate.now (omega (arith, c.if-buffer-lt-FULL_SIZE.false)) fine c.write_stamps-at.ensures c.write_masks.ensures }
