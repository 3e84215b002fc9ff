use Rattle.std.proofs.Common.{rules}
use Rattle.scheme.specs.Views.{view}
use Rattle.certificates.specs.Views.{certificate_of}
use Rattle.castings.proofs.Coming.{closed_at_all}
use Rattle.castings.proofs.closure.first_escape.Goals as goal

pub returns : goal.returns
returns g c = search (rules, closed_at_all g.S.Scales.covering (certificate_of c.args.certificate.now) (view c.args.command.now))
