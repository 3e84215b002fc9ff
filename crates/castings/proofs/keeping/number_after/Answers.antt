use Rattle.std.proofs.Common.{sym, ◌∙◌}
use Rattle.certificates.specs.Views.{certificate_of}
use Rattle.castings.proofs.Listing.{numbered}
use Rattle.castings.proofs.keeping.number_after.Goals as goal

pub returns-in-Some-number_of : goal.returns-in-Some-number_of
returns-in-Some-number_of c =
    numbered (certificate_of c.args.certificate.now) c.in-Some.stamp _ (sym c.number_of.ensures ∙ c.in-Some-number_of.is) ∙ sym c.in-Some.is
