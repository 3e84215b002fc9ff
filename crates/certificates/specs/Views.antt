-- What the stored values stand for.
use Rattle.std.specs.Prelude.{List}
use Rattle.model.specs.Bounded.{listed}
use Rattle.certificates.specs.declared.ban.Ban.{Ban}
use Rattle.certificates.specs.declared.bans.Bans.{Bans}
use Rattle.certificates.specs.declared.certificate.Certificate.{Certificate as Stored}
use Rattle.certificates.specs.Certificates.{Certificate}
use Rattle.certificates.specs.Places.{masks_of}

abbrev pub certificate_of : Stored → Certificate
certificate_of c = record { stamps = listed c.stamps; masks = masks_of c.masks }

abbrev pub bans_of : Bans → List Ban
bans_of b = listed b.list
