use Rattle.std.proofs.Common.{◌≡◌, take}
use Rattle.protection.specs.Commands.{run}
use Rattle.protection.specs.Excerpts.{itself}
use Rattle.protection.specs.Tables.{protection_of}
use Rattle.protection.proofs.excerpt.Excerpt.after_all.Given as goal

abbrev pub invariant-loop-next : goal.invariant-loop-next
invariant-loop-next l = protection_of l.seen ≡ run l.cards itself (take l.next-index l.steps) (protection_of l.initial.seen)
