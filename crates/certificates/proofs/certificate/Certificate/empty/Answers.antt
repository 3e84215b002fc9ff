use Rattle.std.proofs.Common.{sym, subst}
use Rattle.model.specs.Bounded.{listed}
use Rattle.certificates.specs.Certificates.{Apart}
use Rattle.certificates.proofs.Masks.{none_allowed}
use Rattle.certificates.proofs.OnlyListed.{only_listed_none}
use Rattle.certificates.proofs.Stamps.{none_apart}
use Rattle.certificates.proofs.certificate.Certificate.empty.Goals as goal

pub returns : goal.returns
returns c = λ i. record { stamps = c.empty.ensures i; masks = none_allowed i }

pub invariant_of-result : goal.invariant_of-result
invariant_of-result c = record {
  apart = subst Apart (sym c.empty.ensures) none_apart;
  only_listed = only_listed_none (listed c.empty.result);
}
