use Rattle.std.proofs.Common.{map, take}
use Rattle.writing.specs.Buffers.{Put, bytes_of}
use Rattle.writing.specs.Writing.{stamp_item}
use Rattle.writing.proofs.stamps.write_stamps.Given as goal

abbrev pub invariant-loop-stamp : goal.invariant-loop-stamp
invariant-loop-stamp l = Put 0 (bytes_of (map stamp_item (take l.stamp-index l.stamp-items))) l.initial.buffer l.at l.buffer
