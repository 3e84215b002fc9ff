use Rattle.std.proofs.Common.{eqb, rules, tests, ◌∙◌}
use Rattle.std.proofs.lemmas.Iterator.{YieldsList-from_slice}
use Rattle.std.proofs.lemmas.Iterator.Search.{find_from_yields_List}
use Rattle.tapes.specs.Table.{rows}
use Rattle.tapes.proofs.Rows.{one_row}
use Rattle.tapes.proofs.table.row_of.Goals as goal

pub returns-clause-row : goal.returns-clause-row
returns-clause-row c =
    c.copied.ensures
    ∙ find_from_yields_List (λ r. eqb r.byte c.args.byte) _ _ c.find.result c.find.ensures.ran (YieldsList-from_slice rows cc) (λ x b q k. search (rules, tests))

pub returns-clause-rule : goal.returns-clause-rule
returns-clause-rule c = one_row
