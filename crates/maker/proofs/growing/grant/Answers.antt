use Rattle.std.proofs.Common.{◌<◌, sym, ◌∙◌, arith}
use Rattle.std.proofs.lemmas.Result.{MatchResult-weaker, err_from_is_err_and}
use Rattle.certificates.specs.Views.{certificate_of}
use Rattle.maker.proofs.Answering.{has_so, lacks_so}
use Rattle.maker.proofs.Meeting.{met_already, bursts_by_row, bursts_by_column, bursts_by_kind, met_by_all}
use Rattle.maker.specs.declared.need.Need.TheVariants.{Rights}
use Rattle.maker.proofs.growing.grant.Goals as goal

pub returns-then-is_within : goal.returns-then-is_within
returns-then-is_within c =
    let t = certificate_of c.args.table.now in
    met_already t (Rights c.args.row c.args.column c.args.mask)
    (has_so t c.args.row c.args.column c.args.mask c.allows-allowed.result c.is_within.result c.allows-allowed.ensures c.is_within.ensures c.if-is_within.true)

pub returns-in_err-list : goal.returns-in_err-list
returns-in_err-list c =
    let p = err_from_is_err_and c.from_residual.result c.from_residual.ensures.1 in
    let t = certificate_of c.args.table.now in
    rw p.1
    (bursts_by_row t c.args.row c.args.column c.args.mask
    (lacks_so t c.args.row c.args.column c.args.mask c.allows-allowed.result c.is_within.result c.allows-allowed.ensures c.is_within.ensures c.if-is_within.false)
    c.in_err-list.ensures.met)

pub returns-in_err-list-2 : goal.returns-in_err-list-2
returns-in_err-list-2 c =
    let p = err_from_is_err_and c.from_residual-in_err-list-2.result c.from_residual-in_err-list-2.ensures.1 in
    let t = certificate_of c.args.table.now in
    rw p.1
    (bursts_by_column t c.args.row c.args.column c.args.mask
    (lacks_so t c.args.row c.args.column c.args.mask c.allows-allowed.result c.is_within.result c.allows-allowed.ensures c.is_within.ensures c.if-is_within.false)
    (certificate_of c.list.new.table) c.in_ok-list.ensures.met c.in_err-list-2.ensures.met)

pub join-requires : goal.join-requires
join-requires c =
    let small : c.allows-allowed.result < 65536 = omega arith in
    rw (c.in_ok-list-2.ensures.same c.args.row c.args.column ∙ c.in_ok-list.ensures.same c.args.row c.args.column ∙ sym c.allows-allowed.ensures) small

pub returns : goal.returns
returns c =
    let t = certificate_of c.args.table.now in
    let lacks = lacks_so t c.args.row c.args.column c.args.mask c.allows-allowed.result c.is_within.result c.allows-allowed.ensures c.is_within.ensures c.if-is_within.false in
    let first = certificate_of c.list.new.table in
    let second = certificate_of c.list-2.new.table in
    MatchResult-weaker c.join.result c.join.ensures
    (λ _. met_by_all t c.args.row c.args.column c.args.mask lacks first c.in_ok-list.ensures.met second c.in_ok-list-2.ensures.met c.in_ok-list.ensures.same c.in_ok-list-2.ensures.same (certificate_of c.join.new.table))
    (λ _. bursts_by_kind t c.args.row c.args.column c.args.mask lacks first c.in_ok-list.ensures.met second c.in_ok-list-2.ensures.met)
