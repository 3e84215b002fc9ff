-- No certificate tape and no ban tape has two readings, and they are accepted exactly if they encode something.
use Rattle.std.proofs.Common.{ℕ, List}
use Rattle.model.specs.declared.counts.Counts.{Counts}
use Rattle.model.specs.Answers.{Answer}
use Rattle.tapes.proofs.ItemTapes.{items_encoding, made_encoding}
use Rattle.tapes.proofs.Law.{one_answer, accepted_as_encoded}
use Rattle.tapes.proofs.Making.{making_language}
use Rattle.certificates.specs.declared.ban.Ban.{Ban}
use Rattle.certificates.specs.BanTapes.{ban_code, ban_broken_after, EncodesBans, BansRead, BansAcceptedExactly, OneBansReading}
use Rattle.certificates.specs.Certificates.{Certificate}
use Rattle.certificates.specs.Encoding.{code}
use Rattle.certificates.specs.Items.{listed_by}
use Rattle.certificates.specs.Reading.{Encodes, CertificateRead, AcceptedExactly, OneReading}
use Rattle.certificates.specs.Rules.{broken_after}
use Rattle.certificates.proofs.BanLanguage.{ban_making}
use Rattle.certificates.proofs.Language.{certificate_making}

module _ (c : Counts) where
  pub one_reading : OneReading c
  one_reading = one_answer (making_language (certificate_making c)) (Encodes c) (made_encoding (broken_after c) code listed_by)

  pub accepted_exactly : (tape : List ℕ) (answer : Answer Certificate) → CertificateRead c tape answer → AcceptedExactly c tape answer
  accepted_exactly = accepted_as_encoded (making_language (certificate_making c)) (Encodes c) (made_encoding (broken_after c) code listed_by)

  pub one_bans_reading : OneBansReading c
  one_bans_reading = one_answer (making_language (ban_making c)) (EncodesBans c) (items_encoding (ban_broken_after c) ban_code)

  pub bans_accepted_exactly : (tape : List ℕ) (answer : Answer (List Ban)) → BansRead c tape answer → BansAcceptedExactly c tape answer
  bans_accepted_exactly = accepted_as_encoded (making_language (ban_making c)) (EncodesBans c) (items_encoding (ban_broken_after c) ban_code)
