-- A certificate that says all that another says, says all that this one says of a third, and allows as much between any two ends.
use Rattle.std.proofs.Common.{Some, None, Option}
use Rattle.model.specs.declared.stamp.Stamp.{Stamp}
use Rattle.model.specs.Masks.{Within}
use Rattle.certificates.specs.Certificates.{Certificate, between}
use Rattle.maker.specs.Comparing.{Above}

pub above_self : (c : Certificate) → Above c c
above_self c = record { stamps = λ s h. h; rights = λ u v r h. h }

pub above_both : (e d c : Certificate) → Above e d → Above d c → Above e c
above_both e d c first second =
    record {
      stamps = λ s h. first.stamps s (second.stamps s h);
      rights = λ u v r h. first.rights u v r (second.rights u v r h);
    }

pub between_above : (d c : Certificate) → Above d c → (row column : Option Stamp) → Within (between c row column) (between d row column)
between_above d c above None column r h = h
between_above d c above (Some u) None r h = h
between_above d c above (Some u) (Some v) r h = above.rights u v r h
