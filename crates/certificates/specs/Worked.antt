-- The certificate of the worked small kiosk: cards of grades 3 and 1 and a thing, and what each card may hold; and two ban tapes.
use Rattle.std.specs.Prelude.{◌≡◌, ℕ, List, [], ◌∷◌, Some, None, ◌↔◌}
use Rattle.model.specs.declared.kind.Kind.TheVariants.{Subject, Object}
use Rattle.model.specs.Answers.{Answer, accepted}
use Rattle.model.specs.Kiosk.{kiosk_counts}
use Rattle.model.specs.Stamps.{stamp_of}
use Rattle.stores.specs.Matrices.{blank, written}
use Rattle.certificates.specs.declared.ban.Ban.{Ban}
use Rattle.certificates.specs.BanTapes.{BansRead}
use Rattle.certificates.specs.Certificates.{Certificate}
use Rattle.certificates.specs.Reading.{CertificateRead}

abbrev pub certificate_tape : List ℕ
certificate_tape =
    0x50 ∷ 0x01 ∷ 0x03 ∷ 0xFF ∷ 0xFF ∷ 0xFF
    ∷ 0x50 ∷ 0x01 ∷ 0x01 ∷ 0xFF ∷ 0xFF ∷ 0xFF
    ∷ 0x50 ∷ 0x02 ∷ 0xFF ∷ 0xFF ∷ 0xFF ∷ 0xFF
    ∷ 0x51 ∷ 0x00 ∷ 0x02 ∷ 0x00 ∷ 0x01
    ∷ 0x51 ∷ 0x00 ∷ 0x01 ∷ 0x00 ∷ 0x02
    ∷ 0x51 ∷ 0x01 ∷ 0x02 ∷ 0x00 ∷ 0x01
    ∷ []

-- A card of grade 3 may hold right 0 on a thing, and right 1 on a card of grade 1, which may hold right 0 on a thing too.
abbrev pub kiosk_certificate : Certificate
kiosk_certificate =
    record {
      stamps = stamp_of Subject (Some 3) None None None ∷ stamp_of Subject (Some 1) None None None ∷ stamp_of Object None None None None ∷ [];
      masks = written (written (written blank 0 2 0x0001) 0 1 0x0002) 1 2 0x0001;
    }

-- right 1 from a card of grade 1 to any entry of grade 1, and right 0 from a card of grade 1 to any entry of no grade
abbrev pub right_1_tape : List ℕ
right_1_tape = 0x60 ∷ 0x01 ∷ 0x00 ∷ 0x01 ∷ 0x00 ∷ 0x01 ∷ []

abbrev pub right_0_tape : List ℕ
right_0_tape = 0x60 ∷ 0x00 ∷ 0x00 ∷ 0x01 ∷ 0x00 ∷ 0xFF ∷ []

abbrev pub right_1_ban : Ban
right_1_ban = record { right = 1; row = record { attribute = 0; value = Some 1 }; column = record { attribute = 0; value = Some 1 } }

abbrev pub right_0_ban : Ban
right_0_ban = record { right = 0; row = record { attribute = 0; value = Some 1 }; column = record { attribute = 0; value = None } }

-- The kiosk's certificate tape has this reading, and no other.
abbrev pub KioskReads : Answer Certificate → Type 0
KioskReads reading = (answer : Answer Certificate) → CertificateRead kiosk_counts certificate_tape answer ↔ (answer ≡ reading)

-- A ban tape has this reading in the kiosk, and no other.
abbrev pub KioskReadsBans : (tape : List ℕ) → Answer (List Ban) → Type 0
KioskReadsBans tape reading = (answer : Answer (List Ban)) → BansRead kiosk_counts tape answer ↔ (answer ≡ reading)

abbrev pub SmallKiosk : Type 0
SmallKiosk = KioskReads (accepted kiosk_certificate)

pub record SmallKioskBans : Type 0 where
  pub right_1 : KioskReadsBans right_1_tape (accepted (right_1_ban ∷ []))
  pub right_0 : KioskReadsBans right_0_tape (accepted (right_0_ban ∷ []))
