use Rattle.std.proofs.Common.{rules, ℕ, ◌≤◌, sym, ◌∙◌, arith}
use Rattle.std.proofs.lemmas.Grind.{common_steps}
use Rattle.model.specs.Counts.{count_of}
use Rattle.writing.proofs.Spelling.{in_scales_spelt}
use Rattle.writing.proofs.scales.is_in_scales.Goals as goal

pub returns-clause-spelt : goal.returns-clause-spelt
returns-clause-spelt c =
    let small : (k : ℕ) → count_of c.args.counts.now k ≤ 255 = grind (arith, common_steps) in
    λ is. in_scales_spelt c.args.counts.now small c.args.stamp (sym c.is_in_scales.ensures ∙ is) (search rules)
