use Rattle.std.proofs.Common.{◌≡◌, false}
use Rattle.certificates.specs.Bans.{met_by}
use Rattle.certificates.specs.Views.{certificate_of}
use Rattle.certificates.proofs.Each.{EachBelow}
use Rattle.certificates.proofs.meeting.column_met.Given as goal

abbrev pub invariant-loop-v : goal.invariant-loop-v
invariant-loop-v l = EachBelow (λ v. met_by (certificate_of l.certificate) l.ban l.u v ≡ false) l.v-items l.v-index
