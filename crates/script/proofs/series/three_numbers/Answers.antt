use Rattle.std.proofs.lemmas.Bool.{both_ways}
use Rattle.script.specs.Series.{ended, next}
use Rattle.script.proofs.Finding.{finds_none, finds_if}
use Rattle.script.proofs.Leading.{parted, following}
use Rattle.script.proofs.series.three_numbers.Goals as goal

pub returns-in_err-first : goal.returns-in_err-first
returns-in_err-first c =
    finds_none _ _ c.from_residual.ensures (λ p s. let n = parted s in c.in_err-first.ensures (p.0, n.0) n.1)

pub returns-in_err-second : goal.returns-in_err-second
returns-in_err-second c =
    finds_none _ _ c.from_residual-in_err-second.ensures
    (λ p s. let n = parted (following c.in_ok-first.ensures s).1 in c.in_err-second.ensures (p.1, n.0) n.1)

pub returns-in_err-third : goal.returns-in_err-third
returns-in_err-third c =
    finds_none _ _ c.from_residual-in_err-third.ensures
    (λ p s.
    let n = parted (following c.in_ok-second.ensures (following c.in_ok-first.ensures s).1).1 in
    c.in_err-third.ensures (p.2, n.0) n.1)

pub returns : goal.returns
returns c =
    let first = c.in_ok-first.ensures in
    let second = c.in_ok-second.ensures in
    let third = c.in_ok-third.ensures in
    rw c.then_some.ensures
    (finds_if _ _ _
    (λ is. next first (next second (next third (ended (c.only_blanks.ensures.0 is)))))
    (λ is p s.
    both_ways _ is (c.only_blanks.ensures.1 (parted (following third (following second (following first s).1).1).1))))
