use Rattle.certificates.specs.Views.{certificate_of}
use Rattle.writing.specs.Buffers.{Put, bytes_of}
use Rattle.writing.specs.Writing.{items_below, row_items}
use Rattle.writing.proofs.masks.write_masks.Given as goal

abbrev pub invariant-loop-u : goal.invariant-loop-u
invariant-loop-u l = Put l.start (bytes_of (items_below (row_items (certificate_of l.certificate)) l.u)) l.initial.buffer l.at l.buffer
