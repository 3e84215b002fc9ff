use Rattle.std.proofs.Common.{slice_get, ap, ◌∙◌, sym, subst}
use Rattle.std.proofs.lemmas.Result.{err_from_is_err_and}
use Rattle.model.specs.Answers.{refusal}
use Rattle.model.specs.Bounded.{listed}
use Rattle.model.specs.Faults.{layer_number, reason_number}
use Rattle.protection.specs.Entries.{entry_of}
use Rattle.protection.specs.Requests.{lowest_placed, unless_broken}
use Rattle.protection.specs.Tables.{protection_of}
use Rattle.scheme.specs.Views.{view}
use Rattle.changes.specs.Names.{names_rules}
use Rattle.protection.proofs.Keeping.{keeps_sound}
use Rattle.stores.specs.Matrices.{Matrix}
use Rattle.register.specs.Requests.{Asked}
use Rattle.register.specs.Views.{kept_by, state_of}
use Rattle.register.proofs.Carrying.{Bound, refused_by_tests, refused_by_limit, all_done, stays_sound}
use Rattle.register.proofs.register.Register.carry_out.Goals as goal
use Rattle.register.proofs.register.Register.carry_out.Goals.{After-excerpt-before}

-- the command and the names, once they are found, and what the names see
bound : (g : _) (c : After-excerpt-before g) → Bound (kept_by c.args.self.now) (state_of c.args.self.now) c.args.number c.args.names.now (view c.in_ok-command.command) (listed c.in_ok-names.names.items) (protection_of c.excerpt-before.result)
bound g c = record {
  exists = c.in_ok-command.ensures;
  bound = c.in_ok-names.ensures.answer ∙ ap (λ n. unless_broken (lowest_placed (names_rules n c.args.names.now)) c.args.names.now) c.params.ensures;
  sees = c.excerpt-before.ensures;
}

pub returns-in_err-admit-clause-request : goal.returns-in_err-admit-clause-request
returns-in_err-admit-clause-request g c =
    let p = err_from_is_err_and c.from_residual-in_err-admit.result c.from_residual-in_err-admit.ensures.1 in
    rw (p.1, p.2)
    (refused_by_tests (kept_by c.args.self.now) (state_of c.args.self.now) c.args.number c.args.names.now (view c.in_ok-command.command) (listed c.in_ok-names.names.items) (protection_of c.excerpt-before.result)
    (bound g (goal.at.returns-in_err-admit-clause-request g c).After-excerpt-before) _ _ _ c.in_err-admit.ensures)

pub returns-in_err-put_cells-clause-request : goal.returns-in_err-put_cells-clause-request
returns-in_err-put_cells-clause-request g c =
    let p = err_from_is_err_and c.from_residual-in_err-put_cells.result c.from_residual-in_err-put_cells.ensures.1 in
    let f = c.in_err-put_cells.field-0.0 in
    let s = state_of c.args.self.now in
    let both =
    refused_by_limit (kept_by c.args.self.now) s c.args.number c.args.names.now (view c.in_ok-command.command) (listed c.in_ok-names.names.items) (protection_of c.excerpt-before.result)
    (bound g (goal.at.returns-in_err-put_cells-clause-request g c).After-excerpt-before)
    c.in_ok-admit.ensures c.outcome-after.ensures.whole c.in_ok-names.names.distinct (protection_of c.outcome-after.result) c.outcome-after.ensures.steps
    (layer_number f.layer) (reason_number f.reason) f.place c.in_err-put_cells.ensures.answer (g.C.CellStore.cells c.put_cells.new.store) c.in_err-put_cells.ensures.after in
    rw (p.1, p.2)
    (subst (λ (cells : Matrix). Asked (kept_by c.args.self.now) s (slice_get (kept_by c.args.self.now).commands c.args.number) c.args.names.now (refusal f) (record { protection = record { entry = s.protection.entry; cells = cells }; count = s.count })) (sym both.0) both.1)

pub invariant_of-self-2 : goal.invariant_of-self-2
invariant_of-self-2 g c =
    record {
      sound =
          stays_sound (kept_by c.args.self.now) (state_of c.args.self.now) c.args.number c.args.names.now (view c.in_ok-command.command) (listed c.in_ok-names.names.items) (protection_of c.excerpt-before.result)
          (bound g (goal.at.invariant_of-self-2 g c).After-excerpt-before)
          c.in_ok-admit.ensures c.outcome-after.ensures.whole c.in_ok-names.names.distinct (protection_of c.outcome-after.result) c.outcome-after.ensures.steps
          c.in_ok-put_cells.ensures.answer (g.C.CellStore.cells c.put_cells.new.store) c.in_ok-put_cells.ensures.after (entry_of c.put_entries.new.entries) c.put_entries.ensures
          (keeps_sound (view c.in_ok-command.command)) c.in_ok-command.command.stepped c.args.self.now.sound;
    }

pub returns-clause-request : goal.returns-clause-request
returns-clause-request g c =
    all_done (kept_by c.args.self.now) (state_of c.args.self.now) c.args.number c.args.names.now (view c.in_ok-command.command) (listed c.in_ok-names.names.items) (protection_of c.excerpt-before.result)
    (bound g (goal.at.returns-clause-request g c).After-excerpt-before)
    c.in_ok-admit.ensures c.outcome-after.ensures.whole c.in_ok-names.names.distinct (protection_of c.outcome-after.result) c.outcome-after.ensures.steps
    c.in_ok-put_cells.ensures.answer (g.C.CellStore.cells c.put_cells.new.store) c.in_ok-put_cells.ensures.after (entry_of c.put_entries.new.entries) c.put_entries.ensures
    c.one_more-self.result c.one_more-self.ensures
