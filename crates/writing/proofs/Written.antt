-- A certificate that is written whole: its stamps, and then its masks.
use Rattle.std.proofs.Common.{ℕ, ◌≤◌, List, length, map, subst, sym, arith}
use Rattle.std.proofs.lemmas.Grind.{flat_map-append}
use Rattle.model.specs.declared.counts.Counts.{Counts}
use Rattle.certificates.specs.Certificates.{Certificate}
use Rattle.certificates.specs.Encoding.{code}
use Rattle.certificates.specs.declared.certificate.Certificate.{Certificate as Stored}
use Rattle.certificates.specs.Views.{certificate_of}
use Rattle.writing.specs.Buffers.{Put, bytes_of}
use Rattle.writing.specs.Spelling.{AllSpelt}
use Rattle.writing.specs.Writing.{stamp_item, items_below, row_items, written, InScales, full_size, WrittenInto}
use Rattle.writing.proofs.Back.{written_encodes}
use Rattle.writing.proofs.Buffers.{put_after}
use Rattle.writing.proofs.Lengths.{stored_few}

module _ (counts : Counts) (stored : Stored) where
  abbrev c : Certificate
  c = certificate_of stored

  pub written_into : {m n : ℕ} {before between after : List ℕ} → full_size ≤ length before → InScales counts c × AllSpelt c → Put 0 (bytes_of (map stamp_item c.stamps)) before m between → Put m (bytes_of (items_below (row_items c) (length c.stamps))) between n after → WrittenInto counts c before n after
  written_into {m} {n} {before} {between} {after} size fine stamps masks =
      let joined = flat_map-append code (map stamp_item c.stamps) (items_below (row_items c) (length c.stamps)) in
      let all : Put 0 (written c) before n after = subst (λ bytes. Put 0 bytes before n after) (sym joined) (put_after (omega arith) stamps masks) in
      record {
        size = size;
        scaled = fine.0;
        long = omega (arith, all.up_to);
        bytes = all.stand;
        back = written_encodes c (record { few = stored_few stored; apart = stored.apart; only_listed = stored.only_listed }) counts fine.0 fine.1;
      }
