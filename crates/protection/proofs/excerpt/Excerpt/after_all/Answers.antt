use Rattle.std.proofs.Common.{arith}
use Rattle.protection.proofs.Shaping.{shaped_at}
use Rattle.protection.proofs.excerpt.Excerpt.after_all.Goals as goal

pub after-seen-requires : goal.after-seen-requires
after-seen-requires c = shaped_at 3 c.args.steps.now c.loop-next.next-index _ c.requires (omega arith)
