use Rattle.std.proofs.Common.{ℕ, Bor, List, [], ◌∙◌, is_ok, sym, ap, subst, arith, true-eqb, false-eqb}
use Rattle.std.proofs.ResultArms.{chosen}
use Rattle.std.specs.Option.{option_map}
use Rattle.script.proofs.Spelling.{Sofar, begun, one_more, done, stuck}
use Rattle.script.proofs.Refusing.{unreadable}
use Rattle.script.proofs.hex.read_hex.Goals as goal

pub loop-rest-init : goal.loop-rest-init
loop-rest-init c =
    let text = c.args.text.now in
    subst (λ bytes. Sofar text bytes c.past_blanks-rest.result.now) (sym c.new-bytes.ensures.items)
    (subst (Sofar text []) (sym c.past_blanks-rest.ensures) (begun text))

pub returns-in_err-value-clause-read : goal.returns-in_err-value-clause-read
returns-in_err-value-clause-read c =
    unreadable _ _ _ c.from_residual.result _ _ c.from_residual.ensures.1 c.in_err-value.ensures.value c.in_err-value.ensures.ok_part
    (stuck _ _ _ c.loop-rest.invariant (omega (arith, false-eqb _ 0 c.loop-rest-test.ensures)) (sym c.first_pair.ensures ∙ ap (option_map (λ (p : ℕ × Bor (List ℕ)). (p.0, p.1.now))) c.in_err-value.ensures.ok_part))

pub loop-rest-preserved : goal.loop-rest-preserved
loop-rest-preserved c =
    let text = c.args.text.now in
    let pushed = chosen _ _ _ _ c.push.ensures.items (ap is_ok c.in_ok-push.was) in
    subst (λ bytes. Sofar text bytes c.past_blanks-rest-in-loop-rest.result.now) (sym pushed)
    (subst (Sofar text _) (sym c.past_blanks-rest-in-loop-rest.ensures)
    (one_more _ _ _ c.in_ok-value.value c.in_ok-value.after.now c.loop-rest.invariant (sym c.first_pair.ensures ∙ ap (option_map (λ (p : ℕ × Bor (List ℕ)). (p.0, p.1.now))) c.in_ok-value.ensures.ok_part)))

pub returns-clause-read : goal.returns-clause-read
returns-clause-read c = done _ _ _ c.loop-rest.invariant (true-eqb _ 0 c.loop-rest-test.ensures)
