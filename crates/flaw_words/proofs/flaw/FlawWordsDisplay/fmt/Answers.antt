-- What is written is what the flaw is.
use Rattle.flaw_words.proofs.flaw.FlawWordsDisplay.fmt.Goals as goal

pub returns-in-BanMet-clause-writes : goal.returns-in-BanMet-clause-writes
returns-in-BanMet-clause-writes g c = rw c.in-BanMet.is c.write-in-BanMet.ensures.writes
