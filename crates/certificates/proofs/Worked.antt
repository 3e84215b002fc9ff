-- The worked small kiosk's certificate and bans, by computing.
use Rattle.std.proofs.Common.{ℕ, List, [], ◌∷◌, Some, None, sym, refl, subst, arith}
use Rattle.model.specs.Answers.{accepted}
use Rattle.model.specs.Kiosk.{kiosk_counts}
use Rattle.certificates.specs.BanTapes.{BansRead, EncodesBans}
use Rattle.certificates.specs.declared.ban.Ban.{Ban}
use Rattle.certificates.specs.Items.{Item, stamp, allow}
use Rattle.certificates.specs.Reading.{CertificateRead, Encodes}
use Rattle.certificates.specs.Worked.{certificate_tape, kiosk_certificate, right_1_tape, right_0_tape, right_1_ban, right_0_ban, KioskReadsBans, SmallKiosk, SmallKioskBans}
use Rattle.certificates.proofs.Readings.{one_reading, one_bans_reading}

abbrev kiosk_items : List Item
kiosk_items =
    stamp 1 (Some 3) None None None
    ∷ stamp 1 (Some 1) None None None
    ∷ stamp 2 None None None None
    ∷ allow 0 2 0 1
    ∷ allow 0 1 0 2
    ∷ allow 1 2 0 1
    ∷ []

kiosk_encodes : Encodes kiosk_counts certificate_tape kiosk_certificate
kiosk_encodes = record { items = kiosk_items; encodes = (omega arith, refl, refl); makes = refl }

pub small_kiosk : SmallKiosk
small_kiosk answer = (λ read. one_reading kiosk_counts certificate_tape answer (accepted kiosk_certificate) read kiosk_encodes, λ is. subst (CertificateRead kiosk_counts certificate_tape) (sym is) kiosk_encodes)

module _ (tape : List ℕ) (bans : List Ban) (encodes : EncodesBans kiosk_counts tape bans) where
  only : KioskReadsBans tape (accepted bans)
  only answer = (λ read. one_bans_reading kiosk_counts tape answer (accepted bans) read encodes, λ is. subst (BansRead kiosk_counts tape) (sym is) encodes)

pub small_kiosk_bans : SmallKioskBans
small_kiosk_bans = record {
  right_1 = only right_1_tape (right_1_ban ∷ []) (omega arith, refl, refl);
  right_0 = only right_0_tape (right_0_ban ∷ []) (omega arith, refl, refl);
}
