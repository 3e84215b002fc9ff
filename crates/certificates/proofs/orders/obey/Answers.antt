use Rattle.certificates.proofs.orders.obey.Goals as goal

pub returns-in-Allow-clause-answer : goal.returns-in-Allow-clause-answer
returns-in-Allow-clause-answer c = rw c.in-Allow.is (c.add_mask.ensures.answer c.args.counts.now)
