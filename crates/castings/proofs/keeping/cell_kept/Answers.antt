use Rattle.std.proofs.Common.{rules, ◌≡◌, true, is_some, subst, sym, ap, ◌∙◌}
use Rattle.model.specs.Masks.{has, Within}
use Rattle.protection.specs.Tables.{protection_of}
use Rattle.certificates.specs.Views.{certificate_of}
use Rattle.certificates.specs.Certificates.{between}
use Rattle.castings.specs.Numbers.{stamps_by}
use Rattle.castings.proofs.Cells.{cell_within, cell_outside}
use Rattle.castings.proofs.keeping.cell_kept.Goals as goal

pub returns-in-None : goal.returns-in-None
returns-in-None c =
    let t = certificate_of c.args.certificate.now in
    let σ = stamps_by t c.args.numbers in
    let allowed : c.between_numbers-allowed.result ≡ between t (σ c.args.i) (σ c.args.j) = search rules in
    cell_within t (protection_of c.args.after) σ c.requires c.args.i c.args.j c.between_numbers-allowed.result allowed
    (subst (λ m. Within m c.between_numbers-allowed.result) c.cell.ensures c.in-None.ensures)

pub returns-in-Some : goal.returns-in-Some
returns-in-Some c = λ renewed before.
    let t = certificate_of c.args.certificate.now in
    let σ = stamps_by t c.args.numbers in
    let p = protection_of c.args.after in
    let allowed : c.between_numbers-allowed.result ≡ between t (σ c.args.i) (σ c.args.j) = search rules in
    let row : is_some (p.entry c.args.i) ≡ true = search rules in
    let column : is_some (p.entry c.args.j) ≡ true = search rules in
    cell_outside t p σ c.requires c.args.i c.args.j c.between_numbers-allowed.result c.in-Some.right allowed row column
    (ap (λ m. has m c.in-Some.right) (sym c.cell.ensures) ∙ c.in-Some.ensures.0.0)
    c.in-Some.ensures.0.1
