use Rattle.std.proofs.Common.{rules, ◌≡◌, ◌+◌, ◌<◌, ◌≤◌, Some, length, true, false, sym, ap, ◌∙◌, subst, arith}
use Rattle.std.proofs.lemmas.Result.{MatchResult-weaker}
use borrow.Author.Count.{below_more}
use Rattle.scheme.specs.Views.{view}
use Rattle.protection.specs.Tables.{protection_of}
use Rattle.certificates.specs.Certificates.{stamp_at}
use Rattle.certificates.specs.Views.{certificate_of}
use Rattle.castings.specs.Binding.{ReadyPass, SuitsBelow, ClosedFrom, ClosedWith}
use Rattle.castings.specs.Castings.{cast_state}
use Rattle.castings.specs.Numbers.{stamps_by}
use Rattle.castings.specs.Places.{rest_of}
use Rattle.castings.proofs.Binding.{kept_from, escape_from, tried, closed_by_all, closed_before, closed_unready, closed_more, suits_more}
use Rattle.castings.proofs.closure.+castings.Goals as goal

pub closed_from-returns-then-from-ge-PARAMETERS : goal.closed_from-returns-then-from-ge-PARAMETERS
closed_from-returns-then-from-ge-PARAMETERS g t c =
    let certificate = certificate_of c.args.certificate.now in
    let m = view c.args.command.now in
    let few : m.params ≤ 3 = c.args.command.now.parameters.few in
    let long : length c.args.numbers ≡ 3 = search rules in
    let all : 3 ≤ c.args.d = omega arith in
    MatchResult-weaker c.kept.result c.kept.ensures
    (λ x kept. kept_from certificate m few c.args.numbers long c.args.d all g.S.Scales.covering c.args.place.now kept)
    (λ e shows. escape_from certificate m few c.args.numbers long c.args.d all g.S.Scales.covering e c.args.command.now.tested c.requires.suits c.requires.passes shows)

pub closed_from-loop-number-init : goal.closed_from-loop-number-init
closed_from-loop-number-init g t c k less =
    let certificate = certificate_of c.args.certificate.now in
    closed_before g.S.Scales.covering certificate (view c.args.command.now) (stamps_by certificate c.args.numbers) c.args.d c.args.place.now c.args.certificate.now.apart k (rw c.first_at-number.ensures at less)

pub closed_from-loop-number-preserved : goal.closed_from-loop-number-preserved
closed_from-loop-number-preserved g t c =
    let certificate = certificate_of c.args.certificate.now in
    below_more (λ k. ClosedWith g.S.Scales.covering certificate (view c.args.command.now) (stamps_by certificate c.args.numbers) c.args.d c.args.place.now (stamp_at certificate (Some k)))
    c.loop-number.number c.loop-number.invariant c.in_ok-closed_with.ensures

pub closed_from-returns : goal.closed_from-returns
closed_from-returns g t c =
    let certificate = certificate_of c.args.certificate.now in
    let m = view c.args.command.now in
    let all : length certificate.stamps ≤ c.loop-number.number = omega (arith, ap length c.stamps-number-end.ensures) in
    closed_by_all g.S.Scales.covering certificate m (stamps_by certificate c.args.numbers) c.args.d c.args.place.now (sym c.is_cast.ensures ∙ c.if-not-is_cast.false) c.loop-number.number all c.loop-number.invariant

pub closed_with-returns-then-not-ready_pass : goal.closed_with-returns-then-not-ready_pass
closed_with-returns-then-not-ready_pass g t c =
    let certificate = certificate_of c.args.certificate.now in
    let m = view c.args.command.now in
    let covers = g.S.Scales.covering in
    let low : c.args.d < length c.args.numbers = search rules in
    let fails = tried covers m (c.args.d + 1) (protection_of c.seen.result) (cast_state certificate (stamps_by certificate c.bound-numbers.result)) c.tests.result.now c.ready_pass.result false c.ready_pass.ensures c.tests.ensures c.seen.ensures c.if-not-ready_pass.true in
    closed_unready covers certificate m c.args.numbers c.args.d c.args.place.now c.args.number low
    (rw c.bound-numbers.ensures at fails)

pub closed_with-closed_from-requires : goal.closed_with-closed_from-requires
closed_with-closed_from-requires g t c κs within =
    let certificate = certificate_of c.args.certificate.now in
    let m = view c.args.command.now in
    let low : c.args.d < length c.args.numbers = search rules in
    let suited : SuitsBelow certificate m (stamps_by certificate c.bound-numbers.result) (c.args.d + 1) =
    subst (λ n. SuitsBelow certificate m (stamps_by certificate n) (c.args.d + 1)) (sym c.bound-numbers.ensures)
    (suits_more certificate c.args.numbers c.args.d c.args.number m low c.requires.suits (sym c.suits.ensures ∙ c.if-not-suits.false)) in
    let passed : ReadyPass g.S.Scales.covering m (cast_state certificate (stamps_by certificate c.bound-numbers.result)) (c.args.d + 1) =
    tried g.S.Scales.covering m (c.args.d + 1) (protection_of c.seen.result) (cast_state certificate (stamps_by certificate c.bound-numbers.result)) c.tests.result.now c.ready_pass.result true c.ready_pass.ensures c.tests.ensures c.seen.ensures c.if-not-ready_pass.false in
    search (rules, suited, passed, within, c.requires.known)

pub closed_with-returns : goal.closed_with-returns
closed_with-returns g t c =
    let certificate = certificate_of c.args.certificate.now in
    let m = view c.args.command.now in
    let covers = g.S.Scales.covering in
    let low : c.args.d < length c.args.numbers = search rules in
    let rest = rest_of c.args.place.now c.args.number in
    MatchResult-weaker c.closed_from.result c.closed_from.ensures
    (λ x closed. closed_more covers certificate m c.args.numbers c.args.d c.args.place.now c.args.number low c.args.certificate.now.apart
    (subst (λ n. ClosedFrom covers certificate m (stamps_by certificate n) (c.args.d + 1) rest) c.bound-numbers.ensures
    (subst (ClosedFrom covers certificate m (stamps_by certificate c.bound-numbers.result) (c.args.d + 1)) c.rest_of.ensures closed)))
    (λ e escape. escape)
