-- How the maker's table grows: only by what is needed.
use Rattle.std.specs.Prelude.{◌≡◌, ℕ, ◌<◌, ◌≤◌, ◌+◌, ◌-◌, true, false, ◌&&◌, length}
use Rattle.model.specs.declared.stamp.Stamp.{Stamp as AnyStamp}
use Rattle.model.specs.Kinds.{subject_kind}
use Rattle.model.specs.Masks.{Within}
use Rattle.stores.specs.Matrices.{sum_below}
use Rattle.certificates.specs.Certificates.{Certificate, lists, allows}
use Rattle.maker.specs.declared.need.Need.{Need}
use Rattle.maker.specs.declared.need.Need.TheVariants.{Stamp, Rights}
use Rattle.maker.specs.Comparing.{Above}

-- The table says all that it said, and no more than whatever says that and is as asked.
pub record GrownFor (Asked : Certificate → Type 0) (before after : Certificate) : Type 0 where
  pub says_all : Above after before
  pub least : (d : Certificate) → Above d before → Asked d → Above d after

-- The table has grown only as far as is asked, and is as asked.
pub record Completed (Asked : Certificate → Type 0) (before after : Certificate) : Type 0 where
  pub grown : GrownFor Asked before after
  pub complete : Asked after

-- whatever is as asked lists more than 32 stamps
abbrev pub NoneSmall : (Asked : Certificate → Type 0) → Type 0
NoneSmall Asked = (d : Certificate) → Asked d → 32 < length d.stamps

-- and so does whatever says all that the table says, and is as asked
abbrev pub Outgrown : (Asked : Certificate → Type 0) → (before : Certificate) → Type 0
Outgrown Asked before = NoneSmall (λ d. Above d before × Asked d)

-- the certificate has what is needed
abbrev pub Has : Certificate → Need → Type 0
Has c (Stamp s) = lists c s ≡ true
Has c (Rights u v mask) = Within mask (allows c u v)

-- The table says all that it said, and has what was needed; and it says no more than whatever has that and says all that it said.
abbrev pub Grown : (before : Certificate) (need : Need) (after : Certificate) → Type 0
Grown before need after = Completed (λ d. Has d need) before after

-- whatever has that, and says all that the table says, lists more than 32 stamps
abbrev pub Bursts : Certificate → Need → Type 0
Bursts before need = Outgrown (λ d. Has d need) before

-- Of all that a table may list and allow, how much is left. It falls with each stamp and each right that is added, so growth ends.
abbrev pub room : Certificate → ℕ
room c = (32 - length c.stamps) + sum_below (λ u. sum_below (λ v. 65535 - c.masks u v) 32) 32

-- The table has grown by what was needed, and less room is left where it lacked that.
pub record Met (before : Certificate) (need : Need) (after : Certificate) : Type 0 where
  pub added : Grown before need after
  pub no_more : room after ≤ room before
  pub less : (Has before need → ⊥) → room after < room before

-- any two stamps are allowed what they were
abbrev pub SameAllowed : (before after : Certificate) → Type 0
SameAllowed before after = (u v : AnyStamp) → allows after u v ≡ allows before u v

-- No right of the one on the other can be allowed: one is not listed, or the first is no card's.
abbrev pub Unfit : Certificate → (u v : AnyStamp) → Type 0
Unfit c u v = (lists c u && (lists c v && subject_kind u.kind)) ≡ false
