use Rattle.std.proofs.Common.{sym, ◌∙◌}
use Rattle.certificates.specs.Views.{certificate_of}
use Rattle.writing.proofs.Lengths.{stored_few}
use Rattle.maker.proofs.Answering.{joined_met}
use Rattle.maker.proofs.growing.join.Goals as goal

pub returns : goal.returns
returns c =
    let t = c.args.table.now in
    joined_met (certificate_of t) c.args.row c.args.column c.in_ok-u.u c.in_ok-v.v c.args.mask
    (sym c.number_of.ensures ∙ c.in_ok-u.ensures.ok_part) (sym c.number_of-2.ensures ∙ c.in_ok-v.ensures.ok_part) (stored_few t)
    c.requires c.ranges.mask.fits
    c.allow.result c.map_err.result (certificate_of c.allow.new.self) c.map_err.ensures.variant c.allow.ensures.answer c.allow.ensures.after
