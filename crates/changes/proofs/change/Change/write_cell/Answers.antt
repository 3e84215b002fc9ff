use Rattle.std.proofs.Common.{rules, ◌≡◌, true, Some}
use Rattle.changes.specs.Making.{writes}
use Rattle.changes.specs.Puts.{put_in}
use Rattle.changes.proofs.Making.{wrote}
use Rattle.changes.proofs.change.Change.write_cell.Goals as goal

pub returns-in-Some : goal.returns-in-Some
returns-in-Some g c =
    let a = c.args in
    let put : put_in a.self.now a.row a.column ≡ Some c.in-Some.mask = search rules in
    let now : writes a.pass c.in-Some.mask ≡ true = search rules in
    let w = c.write.ensures in
    let done = wrote a.self.now (g.C.CellStore.cells a.store.now) a.row a.column c.in-Some.mask put (g.C.CellStore.most a.store.now) a.pass (c.requires.names.0) (c.requires.names.1) c.requires.ready now c.write.result (g.C.CellStore.cells c.write.new.self) w.answer w.taken w.after in
    record { taken = done.0; limit = w.limit; onward = done.1; settled = λ _. done.2 }
