use Rattle.std.proofs.Common.{rules, ◌≡◌, length, None, unwrap_or, ap}
use Rattle.std.proofs.lemmas.Option.{slice_get_past, unwrap_or-slice_get}
use Rattle.certificates.specs.Views.{certificate_of}
use Rattle.castings.specs.Escapes.{casting_of}
use Rattle.castings.proofs.Listing.{cast_whole}
use Rattle.castings.proofs.escape.Escape.seen.Goals as goal

pub returns : goal.returns
returns c =
    let stamps = c.args.self.now.stamps in
    let long : length stamps ≡ 3 = search rules in
    search (rules, unwrap_or-slice_get, cast_whole (certificate_of c.args.certificate.now) (casting_of c.args.self.now) (λ i past. ap (λ o. unwrap_or o None) (slice_get_past stamps i (rw long past))))
