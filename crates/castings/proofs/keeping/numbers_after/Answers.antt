use Rattle.std.proofs.Common.{rules, ◌≡◌, length}
use Rattle.certificates.specs.Views.{certificate_of}
use Rattle.castings.proofs.Listing.{three_stamps}
use Rattle.castings.proofs.keeping.numbers_after.Goals as goal

pub returns : goal.returns
returns c =
    let long : length c.args.after.entries ≡ 3 = search rules in
    three_stamps (certificate_of c.args.certificate.now) c.args.after long c.in_ok-number_after.field-0 c.in_ok-number_after-2.field-0 c.in_ok-number_after-3.field-0 (search rules) (search rules) (search rules)
