-- The least certificate that contains a protection state and is closed under every command.
use Rattle.protection.specs.States.{Protection}
use Rattle.certificates.specs.Certificates.{Certificate}
use Rattle.register.specs.States.{Kept}
use Rattle.checker.specs.Containing.{Contains}
use Rattle.checker.specs.Judgements.{ClosedUnderAll}
use Rattle.maker.specs.Comparing.{Above}
use Rattle.maker.specs.Growing.{NoneSmall}

-- it holds for good, so far as no ban is looked at
pub record Holds (k : Kept) (p : Protection) (c : Certificate) : Type 0 where
  pub contains : Contains c p
  pub closed : ClosedUnderAll k c

-- It does, and each other that does says all that it says.
pub record Least (k : Kept) (p : Protection) (c : Certificate) : Type 0 where
  pub holds : Holds k p c
  pub below : (d : Certificate) → Holds k p d → Above d c

-- Whatever does would have to list more than 32 stamps.
abbrev pub TooMany : Kept → Protection → Type 0
TooMany k p = NoneSmall (Holds k p)
