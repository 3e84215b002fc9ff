-- What is written is what the condition is.
use Rattle.flaw_words.proofs.breach.BreachWordsDisplay.fmt.Goals as goal

pub returns-in-Cell-clause-writes : goal.returns-in-Cell-clause-writes
returns-in-Cell-clause-writes g c = rw c.in-Cell.is c.write-in-Cell.ensures.writes

pub returns-in-Column-clause-writes : goal.returns-in-Column-clause-writes
returns-in-Column-clause-writes g c = rw c.in-Column.is c.write-in-Column.ensures.writes
