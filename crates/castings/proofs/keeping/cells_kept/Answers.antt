use Rattle.std.proofs.Common.{rules, ◌≡◌, ℕ, length, arith}
use borrow.Author.Count.{below_more}
use Rattle.protection.specs.Tables.{protection_of}
use Rattle.certificates.specs.Views.{certificate_of}
use Rattle.castings.specs.Conditions.{CellKept}
use Rattle.castings.proofs.Cells.{all_rows}
use Rattle.castings.proofs.Listing.{beyond_entries}
use Rattle.castings.proofs.keeping.cells_kept.Goals as goal

pub loop-i-preserved : goal.loop-i-preserved
loop-i-preserved c =
    below_more (λ k. (j : ℕ) → CellKept (certificate_of c.args.certificate.now) (protection_of c.args.after) k j) c.loop-i.i c.loop-i.invariant c.in_ok-row_kept.ensures

pub returns : goal.returns
returns c =
    let long : length c.args.after.entries ≡ 3 = search rules in
    all_rows (certificate_of c.args.certificate.now) (protection_of c.args.after) c.loop-i.i (omega arith)
    (λ j past. beyond_entries c.args.after j long past)
    c.loop-i.invariant
