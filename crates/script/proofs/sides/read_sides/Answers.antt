use Rattle.std.proofs.Common.{ℕ, List, Global, Vec, vec_items, inl, inr}
use Rattle.script.specs.Sides.{SpellsBoth}
use Rattle.script.proofs.Refusing.{refused, unreadable}
use Rattle.script.proofs.Siding.{sides_found, none_found, left_spells, right_spells, opens_either}
use Rattle.script.proofs.sides.read_sides.Goals as goal

abbrev tapes_of : Vec ℕ Global × Vec ℕ Global → List ℕ × List ℕ
tapes_of p = (vec_items p.0, vec_items p.1)

abbrev SpellsSides : List ℕ → List ℕ × List ℕ → Type 0
SpellsSides text p = SpellsBoth text p.0 p.1

pub returns-in_err-left : goal.returns-in_err-left
returns-in_err-left c =
    unreadable _ _ _ c.from_residual.result _ _ c.from_residual.ensures.1 c.in_err-left.ensures.value c.in_err-left.ensures.ok_part
    (λ (p : List ℕ × List ℕ) s. none_found c.in_err-left.ensures.ok_part c.split_sides.ensures p.0 p.1 s)

pub returns-in_err-first : goal.returns-in_err-first
returns-in_err-first c =
    let sides = sides_found c.in_ok-left.ensures.ok_part c.split_sides.ensures in
    refused tapes_of (SpellsSides c.args.text.now) _ (vec_items {Z = Global}) c.from_residual-in_err-first.result _ c.from_residual-in_err-first.ensures.1 c.in_err-first.ensures.read
    (λ (p : List ℕ × List ℕ) s. (p.0, left_spells sides s))
    (λ opens. opens_either sides (inl opens))

pub returns-in_err-second : goal.returns-in_err-second
returns-in_err-second c =
    let sides = sides_found c.in_ok-left.ensures.ok_part c.split_sides.ensures in
    refused tapes_of (SpellsSides c.args.text.now) _ (vec_items {Z = Global}) c.from_residual-in_err-second.result _ c.from_residual-in_err-second.ensures.1 c.in_err-second.ensures.read
    (λ (p : List ℕ × List ℕ) s. (p.1, right_spells sides s))
    (λ opens. opens_either sides (inr opens))

pub returns : goal.returns
returns c = record {
  left = c.in_ok-left.left.now;
  right = c.in_ok-left.right.now;
  sides = sides_found c.in_ok-left.ensures.ok_part c.split_sides.ensures;
  first = c.in_ok-first.ensures.read;
  second = c.in_ok-second.ensures.read;
}
