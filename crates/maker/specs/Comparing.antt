-- When one certificate says all that another says.
use Rattle.std.specs.Prelude.{◌≡◌, true}
use Rattle.model.specs.declared.stamp.Stamp.{Stamp}
use Rattle.model.specs.Masks.{Within}
use Rattle.certificates.specs.Certificates.{Certificate, lists, allows}

-- It lists all stamps of the other, and between any two stamps, which may be the same one, it allows all that the other allows. Of
-- stamps that it does not list, a certificate allows nothing.
pub record Above (d c : Certificate) : Type 0 where
  pub stamps : (s : Stamp) → lists c s ≡ true → lists d s ≡ true
  pub rights : (u v : Stamp) → Within (allows c u v) (allows d u v)
