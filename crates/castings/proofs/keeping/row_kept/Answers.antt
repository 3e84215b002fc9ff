use Rattle.std.proofs.Common.{rules, ◌≡◌, length, arith}
use borrow.Author.Count.{below_more}
use Rattle.protection.specs.Tables.{protection_of}
use Rattle.certificates.specs.Views.{certificate_of}
use Rattle.castings.specs.Conditions.{CellKept}
use Rattle.castings.proofs.Cells.{all_columns}
use Rattle.castings.proofs.Listing.{beyond_entries}
use Rattle.castings.proofs.keeping.row_kept.Goals as goal

pub loop-j-preserved : goal.loop-j-preserved
loop-j-preserved c =
    below_more (λ k. CellKept (certificate_of c.args.certificate.now) (protection_of c.args.after) c.args.i k) c.loop-j.j c.loop-j.invariant c.in_ok-cell_kept.ensures

pub returns : goal.returns
returns c =
    let long : length c.args.after.entries ≡ 3 = search rules in
    all_columns (certificate_of c.args.certificate.now) (protection_of c.args.after) c.args.i c.loop-j.j (omega arith)
    (λ j past. beyond_entries c.args.after j long past)
    c.loop-j.invariant
