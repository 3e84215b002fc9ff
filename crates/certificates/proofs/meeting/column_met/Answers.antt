use Rattle.std.proofs.Common.{◌≡◌, false, sym, ◌∙◌, arith}
use Rattle.certificates.specs.Bans.{met_by}
use Rattle.certificates.specs.Views.{certificate_of}
use Rattle.certificates.proofs.Each.{each_none, each_more}
use Rattle.certificates.proofs.Listed.{listed_at, each_listed}
use Rattle.certificates.proofs.meeting.column_met.Goals as goal

pub loop-v-init : goal.loop-v-init
loop-v-init c = each_none (λ v. met_by (certificate_of c.args.certificate.now) c.args.ban.now c.args.u.now v ≡ false) c.stamps-v-items.result.now

pub returns-then-is_met_by : goal.returns-then-is_met_by
returns-then-is_met_by c =
    (listed_at (certificate_of c.args.certificate.now) c.stamps-v-items.result.now c.loop-v.v-index _ c.stamps-v-items.ensures c.loop-v-test.true, sym c.is_met_by.ensures ∙ c.if-is_met_by.true)

pub loop-v-preserved : goal.loop-v-preserved
loop-v-preserved c =
    each_more (λ v. met_by (certificate_of c.args.certificate.now) c.args.ban.now c.args.u.now v ≡ false) c.stamps-v-items.result.now c.loop-v.v-index _ c.loop-v-test.true c.loop-v.invariant (sym c.is_met_by.ensures ∙ c.if-is_met_by.false)

pub returns : goal.returns
returns c =
    each_listed (λ v. met_by (certificate_of c.args.certificate.now) c.args.ban.now c.args.u.now v ≡ false) (certificate_of c.args.certificate.now) c.stamps-v-items.result.now c.loop-v.v-index c.stamps-v-items.ensures (omega arith) c.loop-v.invariant
