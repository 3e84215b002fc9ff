use Rattle.std.proofs.Common.{◌&&◌, not, ◌||◌, sym, ap, ◌∙◌}
use Rattle.model.specs.Kinds.{subject_kind}
use Rattle.model.specs.Masks.{has}
use Rattle.scheme.specs.Views.{view}
use Rattle.certificates.specs.Views.{certificate_of}
use Rattle.castings.proofs.Listing.{suits_listed}
use Rattle.castings.proofs.numbers.suits.Goals as goal

pub returns-then-is_cast : goal.returns-then-is_cast
returns-then-is_cast c =
    let m = view c.args.command.now in
    let s = c.in-Some.stamp in
    c.fits_card.ensures
    ∙ sym
    (suits_listed (certificate_of c.args.certificate.now) m c.args.i c.args.number s (sym c.stamp_at.ensures ∙ c.in-Some.is)
    ∙ ap (λ b. b && (not (has m.cards c.args.i) || subject_kind s.kind)) (sym c.is_cast-in-Some.ensures ∙ c.if-is_cast.true))
