-- What has grown from the least certificate that contains a register until it is closed, is the least that holds for good.
use Rattle.std.proofs.Common.{◌≡◌, List, subst}
use Rattle.scheme.specs.Commands.{Command}
use Rattle.protection.specs.States.{Protection}
use Rattle.certificates.specs.Certificates.{Certificate}
use Rattle.register.specs.States.{Kept}
use Rattle.checker.specs.Judgements.{ClosedUnderEach}
use Rattle.maker.specs.Growing.{Completed, Outgrown}
use Rattle.maker.specs.Least.{Least, TooMany}
use Rattle.maker.specs.Taking.{LeastContaining}
use Rattle.maker.proofs.Taking.{contains_above}

module _ (k : Kept) (p : Protection) (t : Certificate) (start : LeastContaining p t) (commands : List Command) (all : commands ≡ k.commands) where
  pub completed_least : (u : Certificate) → Completed (ClosedUnderEach k.covers commands) t u → Least k p u
  completed_least u completed =
      let whole = subst (λ ms. Completed (ClosedUnderEach k.covers ms) t u) all completed in
      record {
        holds = record { contains = contains_above p u t whole.grown.says_all start.contains; closed = whole.complete };
        below = λ d holds. whole.grown.least d (start.below d holds.contains) holds.closed;
      }

  pub outgrown_too_many : Outgrown (ClosedUnderEach k.covers commands) t → TooMany k p
  outgrown_too_many outgrown =
      let whole = subst (λ ms. Outgrown (ClosedUnderEach k.covers ms) t) all outgrown in
      λ d holds. whole d (start.below d holds.contains, holds.closed)
