use Rattle.std.proofs.Common.{◌≡◌, ◌+◌, ◌/◌, ◌%◌, ◌^◌, ◌<◌, ◌≤◌, eqb, sym, ap, ◌∙◌, zero-add, arith, pow_mono}
use lib.Bits.{and_mask}
use Rattle.std.proofs.lemmas.Nat.{shr_below}
use Rattle.std.proofs.lemmas.Bool.{le-ltb}
use Rattle.model.specs.Masks.{has}
use Rattle.model.proofs.mask.holds.Goals as goal

pub returns-then-right-lt-RIGHTS : goal.returns-then-right-lt-RIGHTS
unfolding has
returns-then-right-lt-RIGHTS c = ap (λ n. eqb n 1) (and_mask (c.args.mask / 2 ^ c.args.right) 1)

pub returns-else-right-lt-RIGHTS : goal.returns-else-right-lt-RIGHTS
unfolding has
returns-else-right-lt-RIGHTS c =
    let m = c.args.mask in
    let r = c.args.right in
    let large : 16 ≤ r = omega arith in
    let high : 2 ^ 16 ≤ 2 ^ r = pow_mono large in
    let low : m < 2 ^ (0 + r) = rw zero-add (omega arith) in
    let gone : m / 2 ^ r < 2 ^ 0 = shr_below m 0 r low in
    let none : m / 2 ^ r ≡ 0 = omega arith in
    le-ltb r 16 large ∙ ap (λ n. eqb (n % 2) 1) (sym none)
