use Rattle.std.proofs.Common.{sym, subst}
use Rattle.std.proofs.lemmas.Result.{MatchResult-weaker}
use Rattle.certificates.specs.Views.{certificate_of}
use Rattle.maker.specs.Growing.{Has}
use Rattle.maker.proofs.growing.meet.Goals as goal

pub returns-in-Rights-clause-room : goal.returns-in-Rights-clause-room
returns-in-Rights-clause-room c =
    MatchResult-weaker c.grant.result c.grant.ensures
    (λ _ met lacks. met.less (λ has. lacks (subst (Has (certificate_of c.args.table.now)) (sym c.in-Rights.is) has)))
    (λ _ _. tt)
