use Rattle.std.proofs.Common.{◌≡◌, Bool, true, false, sym, ◌∙◌, arith}
use Rattle.std.proofs.lemmas.Bool.{both_ways}
use Rattle.model.specs.declared.counts.Counts.{Counts}
use Rattle.model.specs.declared.stamp.Stamp.{Stamp}
use Rattle.model.specs.Counts.{in_scales}
use Rattle.certificates.specs.Certificates.{Certificate, lists}
use Rattle.certificates.specs.Views.{certificate_of}
use Rattle.certificates.proofs.Each.{each_more}
use Rattle.certificates.proofs.Listed.{listed_at, each_listed}
use Rattle.writing.specs.Spelling.{Spelt}
use Rattle.writing.specs.Writing.{InScales}
use Rattle.writing.proofs.scales.are_in_scales.Goals as goal

-- A listed stamp that is not: the stamp is known by what its bytes would be.
one_out : {s : Stamp} {scaled : Bool} (counts : Counts) (c : Certificate) → (scaled ≡ true → Spelt s) → lists c s ≡ true → in_scales counts s ≡ false → InScales counts c → ⊥
one_out {s} counts c spelt listed out all = both_ways (in_scales counts s) out (all s listed)

pub returns-then-not-is_in_scales : goal.returns-then-not-is_in_scales
returns-then-not-is_in_scales c =
    let t = certificate_of c.args.certificate.now in
    one_out c.args.counts.now t c.is_in_scales.ensures.spelt
    (listed_at t c.stamps-stamp-items.result.now c.loop-stamp.stamp-index _ c.stamps-stamp-items.ensures c.loop-stamp-test.true)
    (sym c.is_in_scales.ensures.answer ∙ c.if-not-is_in_scales.true)

pub loop-stamp-preserved : goal.loop-stamp-preserved
loop-stamp-preserved c =
    let is = c.if-not-is_in_scales.false in
    each_more (λ s. (in_scales c.args.counts.now s ≡ true) × Spelt s) c.stamps-stamp-items.result.now c.loop-stamp.stamp-index _ c.loop-stamp-test.true c.loop-stamp.invariant (sym c.is_in_scales.ensures.answer ∙ is, c.is_in_scales.ensures.spelt is)

pub returns : goal.returns
returns c =
    let each =
    each_listed (λ s. (in_scales c.args.counts.now s ≡ true) × Spelt s) (certificate_of c.args.certificate.now) c.stamps-stamp-items.result.now c.loop-stamp.stamp-index c.stamps-stamp-items.ensures (omega arith) c.loop-stamp.invariant in
    (λ s listed. (each s listed).0, λ s listed. (each s listed).1)
