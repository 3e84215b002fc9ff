use Rattle.std.proofs.Common.{⊎_elim}
use Rattle.std.proofs.lemmas.Bool.Decides.{not_from_Decides}
use Rattle.script.specs.declared.keyword.Keyword.{Keyword}
use Rattle.script.specs.Calls.{Asks, asks_board, asks_records}
use Rattle.script.proofs.Finding.{found_at}
use Rattle.script.proofs.Saying.{asked}
use Rattle.script.proofs.Refusing.{unfound}
use Rattle.script.proofs.line.read_store.Goals as goal

pub returns-then-is_board : goal.returns-then-is_board
returns-then-is_board c = asks_board (c.is_board.ensures.0 c.if-is_board.true)

pub returns-in_err-records : goal.returns-in_err-records
returns-in_err-records c =
    unfound _ _ _ c.from_residual.result _ _ _ c.from_residual.ensures.1 c.in_err-records.ensures.value c.in_err-records.ensures.ok_part c.list_size.ensures
    (λ call (a : Asks Keyword.Store c.args.rest.now call).
    ⊎_elim
    (λ x. absurd (not_from_Decides _ c.is_board.ensures c.if-is_board.false x.0))
    (λ x. (x.0, x.1))
    (asked a))

pub returns : goal.returns
returns c = asks_records (found_at _ c.in_ok-records.ensures.ok_part c.list_size.ensures)
