use Rattle.certificates.specs.Bans.{UnmetOn}
use Rattle.certificates.specs.Views.{certificate_of}
use Rattle.certificates.proofs.Each.{EachBelow}
use Rattle.certificates.proofs.meeting.meeting.Given as goal

abbrev pub invariant-loop-u : goal.invariant-loop-u
invariant-loop-u l = EachBelow (UnmetOn (certificate_of l.certificate) l.ban) l.u-items l.u-index
