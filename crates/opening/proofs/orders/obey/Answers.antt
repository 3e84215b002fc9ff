use Rattle.opening.proofs.orders.obey.Goals as goal

pub returns-in-Card-clause-answer : goal.returns-in-Card-clause-answer
returns-in-Card-clause-answer g c = rw c.in-Card.is (c.add_entry.ensures.answer (g.C.CellStore.most c.args.store.now) (g.C.CellStore.cells c.args.store.now))

pub returns-in-Thing-clause-answer : goal.returns-in-Thing-clause-answer
returns-in-Thing-clause-answer g c = rw c.in-Thing.is (c.add_entry-in-Thing.ensures.answer (g.C.CellStore.most c.args.store.now) (g.C.CellStore.cells c.args.store.now))

pub returns-in-Right-clause-answer : goal.returns-in-Right-clause-answer
returns-in-Right-clause-answer g c = rw c.in-Right.is (c.add_right.ensures.answer c.args.counts.now)
