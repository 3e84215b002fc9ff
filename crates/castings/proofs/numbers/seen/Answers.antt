use Rattle.std.proofs.Common.{rules, ◌≡◌, length}
use Rattle.certificates.specs.Views.{certificate_of}
use Rattle.castings.proofs.Listing.{seen_whole}
use Rattle.castings.proofs.numbers.seen.Goals as goal

pub returns : goal.returns
returns c =
    let long : length c.args.numbers ≡ 3 = search rules in
    search (rules, seen_whole (certificate_of c.args.certificate.now) c.args.numbers long)
