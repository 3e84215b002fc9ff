use Rattle.certificates.specs.Views.{certificate_of}
use Rattle.writing.specs.Buffers.{Put, bytes_of}
use Rattle.writing.specs.Writing.{cell_items, items_below}
use Rattle.writing.proofs.masks.write_row.Given as goal

abbrev pub invariant-loop-v : goal.invariant-loop-v
invariant-loop-v l = Put l.start (bytes_of (items_below (cell_items (certificate_of l.certificate) l.u) l.v)) l.initial.buffer l.at l.buffer
