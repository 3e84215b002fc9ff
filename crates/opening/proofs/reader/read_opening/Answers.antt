use Rattle.std.proofs.Common.{sym, ◌∙◌, subst}
use Rattle.model.specs.Answers.{answer}
use Rattle.protection.specs.Standing.{standing}
use Rattle.opening.specs.Opened.{TakenIn}
use Rattle.opening.proofs.Answering.{one_reading, refused_opened, accepted_opened, opened_exactly, state_sound}
use Rattle.opening.proofs.Worked.{small_kiosk}
use Rattle.opening.proofs.reader.read_opening.Goals as goal
use Rattle.opening.proofs.reader.read_opening.Goals.{After-read_orders-taken}

-- the limit of the store is the one that it had
taken : (g : _) (c : After-read_orders-taken g) → TakenIn c.args.counts.now (g.C.CellStore.most c.args.store.now) c.args.tape.now (answer (λ _. tt) c.read_orders-taken.result) (standing c.read_orders-taken.new.entries (g.C.CellStore.cells c.read_orders-taken.new.store))
taken g c =
    subst (λ n. TakenIn c.args.counts.now n c.args.tape.now (answer (λ _. tt) c.read_orders-taken.result) (standing c.read_orders-taken.new.entries (g.C.CellStore.cells c.read_orders-taken.new.store)))
    c.empty.ensures.limit c.read_orders-taken.ensures.taken

pub returns-then-is_err-clause-opened : goal.returns-then-is_err-clause-opened
returns-then-is_err-clause-opened g c =
    refused_opened c.args.counts.now (g.C.CellStore.most c.args.store.now) c.args.tape.now _ _ _ (sym c.is_err.ensures.value ∙ c.if-is_err.true) (taken g (goal.at.returns-then-is_err-clause-opened g c).After-read_orders-taken) c.empty-then-is_err.ensures.after

pub returns-then-is_err-clause-exact : goal.returns-then-is_err-clause-exact
returns-then-is_err-clause-exact g c = opened_exactly c.args.counts.now (g.C.CellStore.most c.args.store.now) c.args.tape.now _ _ (returns-then-is_err-clause-opened g c)

pub returns-then-is_err-clause-law : goal.returns-then-is_err-clause-law
returns-then-is_err-clause-law g c = one_reading c.args.counts.now (g.C.CellStore.most c.args.store.now)

pub returns-else-is_err-clause-opened : goal.returns-else-is_err-clause-opened
returns-else-is_err-clause-opened g c =
    accepted_opened c.args.counts.now (g.C.CellStore.most c.args.store.now) c.args.tape.now _ _ (sym c.is_err.ensures.value ∙ c.if-is_err.false) (taken g (goal.at.returns-else-is_err-clause-opened g c).After-read_orders-taken)

pub returns-else-is_err-clause-exact : goal.returns-else-is_err-clause-exact
returns-else-is_err-clause-exact g c = opened_exactly c.args.counts.now (g.C.CellStore.most c.args.store.now) c.args.tape.now _ _ (returns-else-is_err-clause-opened g c)

pub returns-else-is_err-clause-law : goal.returns-else-is_err-clause-law
returns-else-is_err-clause-law g c = one_reading c.args.counts.now (g.C.CellStore.most c.args.store.now)

pub returns-then-is_err-clause-sound : goal.returns-then-is_err-clause-sound
returns-then-is_err-clause-sound g c = state_sound c.args.counts.now (g.C.CellStore.most c.args.store.now) c.args.tape.now _ _ (returns-then-is_err-clause-opened g c)

pub returns-then-is_err-clause-worked : goal.returns-then-is_err-clause-worked
returns-then-is_err-clause-worked g c = small_kiosk

pub returns-else-is_err-clause-sound : goal.returns-else-is_err-clause-sound
returns-else-is_err-clause-sound g c = state_sound c.args.counts.now (g.C.CellStore.most c.args.store.now) c.args.tape.now _ _ (returns-else-is_err-clause-opened g c)

pub returns-else-is_err-clause-worked : goal.returns-else-is_err-clause-worked
returns-else-is_err-clause-worked g c = small_kiosk
