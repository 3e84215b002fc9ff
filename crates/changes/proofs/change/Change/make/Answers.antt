use Rattle.std.proofs.Common.{◌≡◌, ℕ, true, None, Ok, Err, Option, Result, is_ok, sym, refl, ap, ◌∙◌}
use Rattle.model.specs.Answers.{refused_by, unless}
use Rattle.model.specs.declared.fault.Reason.{Reason}
use Rattle.changes.specs.Changes.{changed}
use Rattle.changes.proofs.Making.{made}
use Rattle.changes.proofs.change.Change.make.Goals as goal

not_refused : {X : Type 0} (r : Result X Reason) → is_ok r ≡ true → refused_by r ≡ None
not_refused (Ok x) e = refl
not_refused (Err reason) e = absurd (cc)

pub returns-clause-after : goal.returns-clause-after
returns-clause-after g c =
    let cells = g.C.CellStore.cells in
    let change = c.args.self.now in
    let before = cells c.args.store.now in
    let first = c.write_all.ensures in
    let second = c.write_all-2.ensures in
    made change before (cells c.write_all.new.store) (cells c.write_all-2.new.store) first.onward second.onward first.settled second.settled (g.met.C.CellStore.of_names c.write_all-2.new.store)
    ∙ ap (λ (rule : Option ℕ). unless rule before (changed change before)) (sym (not_refused c.write_all-2.result second.taken))
