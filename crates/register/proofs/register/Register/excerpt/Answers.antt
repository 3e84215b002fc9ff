use Rattle.std.proofs.Common.{rules, ◌≡◌, ◌≤◌, [], ◌∷◌, length, arith, length-take}
use Rattle.model.specs.Bounded.{listed}
use Rattle.protection.specs.Commands.{name_at, seen}
use Rattle.protection.proofs.Tables.{entries_with, table_with, kept_whole}
use Rattle.protection.specs.Standing.{standing}
use Rattle.register.proofs.Excerpts.{unseen_entry, unseen_cell}
use Rattle.register.proofs.register.Register.excerpt.Goals as goal

pub returns : goal.returns
returns g c =
    let register = c.args.self.now in
    let p = standing register.entries (g.C.CellStore.cells register.store) in
    let items = c.args.names.now.items in
    let names = listed items in
    let few : length names ≤ 3 = rw length-take (omega (arith, items.few)) in
    let sight = seen (name_at names) p in
    let entries : c.get.result ∷ c.get-2.result ∷ c.get-3.result ∷ [] ≡ entries_with sight.entry = search rules in
    let table : c.row.result ∷ c.row-2.result ∷ c.row-3.result ∷ [] ≡ table_with sight.cells = search rules in
    kept_whole sight
    (unseen_entry p names few c.get.ensures.names)
    (unseen_cell p names few (g.met.C.CellStore.of_names register.store))
    _ _ entries table
