use Rattle.std.proofs.Common.{◌≡◌, true, is_ok, length, None, sym, ◌∙◌, arith}
use Rattle.std.specs.List.{position}
use Rattle.std.proofs.lemmas.Bool.{ltb-true}
use Rattle.model.specs.Bounded.{listed}
use Rattle.model.specs.Stamps.{same_stamp}
use Rattle.certificates.specs.Places.{masks_of}
use Rattle.certificates.proofs.OnlyListed.{only_listed_if}
use Rattle.certificates.proofs.Stamps.{not_listed, apart_if}
use Rattle.certificates.proofs.certificate.Certificate.list.Goals as goal
use Rattle.certificates.proofs.certificate.Certificate.list.Goals.{else-len-lt-STAMPS-via-then-len-lt-STAMPS+else-lists, else-len-lt-STAMPS-via-else-len-lt-STAMPS}

pub invariant_of-self : goal.invariant_of-self
invariant_of-self c =
    let stamps = listed c.args.self.now.stamps in
    let none : is_ok c.push.result ≡ true → position (λ t. same_stamp t c.args.stamp) stamps ≡ None =
    λ room.
    elim c.else-len-lt-STAMPS.branch [
      | else-len-lt-STAMPS-via-then-len-lt-STAMPS+else-lists w ↦ not_listed stamps c.args.stamp (sym w.lists.ensures ∙ w.if-lists.false)
      | else-len-lt-STAMPS-via-else-len-lt-STAMPS w ↦ absurd (omega (arith, w.if-len-lt-STAMPS.false, c.len.ensures, ltb-true (length stamps) 32 (sym c.push.ensures.room ∙ room)))
    ] in
    let room = is_ok c.push.result in
    let after = listed c.push.new.self in
    record {
      apart = apart_if stamps c.args.stamp c.args.self.now.apart room none after c.push.ensures.items;
      only_listed = only_listed_if stamps c.args.stamp (masks_of c.args.self.now.masks) c.args.self.now.only_listed room after c.push.ensures.items;
    }
