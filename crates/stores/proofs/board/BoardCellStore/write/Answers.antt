use Rattle.std.proofs.Common.{rules, sym}
use Rattle.stores.specs.Boards.{shown}
use Rattle.stores.proofs.Placing.{board_decided, board_written, shown_written, some_counted, within_limit}
use Rattle.stores.proofs.board.BoardCellStore.write.Goals as goal

pub filled_after-self-inside-requires-clause-counted : goal.filled_after-self-inside-requires-clause-counted
filled_after-self-inside-requires-clause-counted c = some_counted c.self.invariant c.args.row c.args.column c.in_ok-place.place (search rules)

pub filled_after-self-inside-requires-clause-limit : goal.filled_after-self-inside-requires-clause-limit
filled_after-self-inside-requires-clause-limit c = within_limit c.self.invariant

pub invariant_of-self : goal.invariant_of-self
invariant_of-self c = board_written c.self.invariant c.args.row c.args.column c.in_ok-place.place (search rules) c.args.mask c.filled_after-self-inside.result c.filled_after-self-inside.ensures

pub returns-clause-answer : goal.returns-clause-answer
returns-clause-answer c = sym (board_decided (shown c.args.self.now) c.args.row c.args.column c.args.mask (search rules) (search rules)).0

pub returns-clause-taken : goal.returns-clause-taken
returns-clause-taken c = sym (board_decided (shown c.args.self.now) c.args.row c.args.column c.args.mask (search rules) (search rules)).1

pub returns-clause-after : goal.returns-clause-after
returns-clause-after c = rw (← c.self.view_is) (shown_written c.self.invariant c.args.row c.args.column c.in_ok-place.place (search rules) c.args.mask)
