use Rattle.std.proofs.Common.{◌≡◌, ℕ, ◌<◌, true, ltb, sym, refl, ap, ◌∙◌, arith}
use Rattle.stores.specs.Matrices.{Matrix, written}
use Rattle.stores.specs.RecordLists.{records_of, list_limit, shown}
use Rattle.stores.specs.Records.{at}
use Rattle.stores.proofs.Holding.{exact, kept_or_exact, found, missed, used_is_count, cell_present, cell_absent}
use Rattle.stores.proofs.Taking.{room_over, room_none, room_new, decided, ok_where}
use Rattle.stores.proofs.Writing.{written_same}
use Rattle.stores.proofs.list.cells.RecordListCellStore.write.Goals as goal

same_place : (f : Matrix) (m : ℕ) {s o a b : ℕ} → s ≡ a → o ≡ b → written f s o m ≡ written f a b m
same_place f m row column = rw (row, column) refl

pub replace-requires : goal.replace-requires
replace-requires c = (found c.args.self.now c.args.row c.args.column c.in-Some.i c.in-Some.ensures).0

pub add-requires-clause-absent : goal.add-requires-clause-absent
add-requires-clause-absent c = missed c.args.self.now c.args.row c.args.column c.in-None.ensures

-- the cell has a record
pub returns-in-Some : goal.returns-in-Some
returns-in-Some c =
    let l = c.args.self.now in
    let s = c.args.row in
    let o = c.args.column in
    let m = c.args.mask in
    let i = c.in-Some.i in
    let here = found l s o i c.in-Some.ensures in
    let held : shown l s o ≡ (at (records_of l) i).mask = cell_present l i s o here.0 here.1 in
    let some : 0 < (at (records_of l) i).mask = (l.full i here.0).2 in
    let taken = decided (list_limit l) (shown l) s o m (omega arith) (omega arith) true (room_over (list_limit l) (shown l) s o m (omega arith)) in
    record {
      answer = sym taken.0;
      taken = sym taken.1;
      after = c.replace.ensures.cells ∙ same_place (shown l) m here.1.0 here.1.1;
      limit = c.replace.ensures.limit;
      memory = exact c.replace.new.self;
    }

-- it has none, and is to have none
pub returns-in-None : goal.returns-in-None
returns-in-None c =
    let l = c.args.self.now in
    let s = c.args.row in
    let o = c.args.column in
    let m = c.args.mask in
    let empty : shown l s o ≡ 0 = cell_absent l s o (missed l s o c.in-None.ensures) in
    let none : m ≡ 0 = omega arith in
    let taken = decided (list_limit l) (shown l) s o m (omega arith) (omega arith) true (room_none (list_limit l) (shown l) s o m none) in
    record {
      answer = sym taken.0;
      taken = sym taken.1;
      after = sym (written_same (shown l) s o m (empty ∙ sym none));
      limit = refl;
      memory = exact l;
    }

-- it has none, and is to have one
pub returns-in-None-2 : goal.returns-in-None-2
returns-in-None-2 c =
    let l = c.args.self.now in
    let s = c.args.row in
    let o = c.args.column in
    let m = c.args.mask in
    let free = ltb l.used (list_limit l) in
    let empty : shown l s o ≡ 0 = cell_absent l s o (missed l s o c.in-None.ensures) in
    let room = room_new (list_limit l) (shown l) s o m empty (omega arith) ∙ ap (λ (n : ℕ). ltb n (list_limit l)) (used_is_count l) in
    let by_room = decided (list_limit l) (shown l) s o m (omega arith) (omega arith) free room in
    record {
      answer = c.add.ensures.answer ∙ sym by_room.0;
      taken = ok_where c.add.result free c.add.ensures.answer ∙ sym by_room.1;
      after = c.add.ensures.cells;
      limit = c.add.ensures.limit;
      memory = kept_or_exact c.add.result c.add.new.self l c.add.ensures.kept;
    }
