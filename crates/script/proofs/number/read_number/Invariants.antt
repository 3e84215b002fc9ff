use Rattle.std.proofs.Common.{◌≡◌, ◌≤◌, drop}
use Rattle.script.proofs.Numbering.{worth}
use Rattle.script.proofs.number.read_number.Given as goal

-- the digits so far write the number, which is within the bound
abbrev pub invariant-loop-b : goal.invariant-loop-b
invariant-loop-b l = (l.number ≤ l.most) × (worth (drop l.b-index l.word) l.number ≡ worth l.word 0)
