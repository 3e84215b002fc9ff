use Rattle.std.proofs.Common.{refl, sym, ◌∙◌}
use Rattle.certificates.specs.Views.{certificate_of}
use Rattle.maker.proofs.Answering.{listed_met, listed_same}
use Rattle.maker.proofs.growing.list.Goals as goal

pub returns-clause-met : goal.returns-clause-met
returns-clause-met c =
    let t = c.args.table.now in
    listed_met (certificate_of t) c.args.stamp t.apart t.only_listed (sym c.lists.ensures ∙ c.if-lists.false)
    c.list.result c.map_err.result (certificate_of c.list.new.self) c.map_err.ensures.variant c.list.ensures.answer c.list.ensures.after

pub returns-then-lists-clause-same : goal.returns-then-lists-clause-same
returns-then-lists-clause-same c = λ u v. refl

pub returns-clause-same : goal.returns-clause-same
returns-clause-same c =
    let t = c.args.table.now in
    listed_same (certificate_of t) c.args.stamp t.apart t.only_listed (sym c.lists.ensures ∙ c.if-lists.false)
    c.list.result c.map_err.result (certificate_of c.list.new.self) c.map_err.ensures.variant c.list.ensures.after
