-- The first command under which a certificate is not closed, and the first ban that it meets.
use Rattle.std.proofs.Common.{◌≡◌, ℕ, ◌+◌, ◌<◌, ◌≤◌, List, map, length, get_or, slice_get, Some, refl, sym, ap, ◌∙◌}
use Rattle.std.proofs.lemmas.List.{length-map}
use Rattle.std.specs.Option.{option_map}
use Rattle.std.proofs.lemmas.Option.{slice_get-get_or, slice_get_read, slice_get-map}
use Rattle.model.specs.declared.stamp.Stamp.{Stamp}
use Rattle.scheme.specs.declared.command.Command.{Command as Stored}
use Rattle.scheme.specs.Commands.{Command}
use Rattle.scheme.specs.Views.{view}
use Rattle.certificates.specs.declared.ban.Ban.{Ban}
use Rattle.certificates.specs.Bans.{Meets, MetBy}
use Rattle.certificates.specs.Certificates.{Certificate}
use Rattle.certificates.proofs.Each.{EachBelow, each_with, each_there}
use Rattle.castings.specs.declared.escape.Escape.{Escape}
use Rattle.castings.specs.Closure.{Closed}
use Rattle.castings.specs.Escapes.{IsEscape}
use Rattle.register.specs.States.{Kept}
use Rattle.checker.specs.Flaws.{IsLowestEscape, IsLowestMet}
use Rattle.checker.specs.Judgements.{ClosedUnderAll, MeetsNone}
use Rattle.checker.proofs.Excluding.{closed_no_escape}

-- the command of a number, as a loop reads it
pub command_at : (commands : List Command) (items : List Stored) (n : ℕ) (m : Stored) → map view items ≡ commands → n < length items → m ≡ get_or items n m → slice_get commands n ≡ Some (view m)
command_at commands items n m same low is =
    ap (λ xs. slice_get xs n) (sym same) ∙ slice_get-map view items n ∙ ap (option_map view) (slice_get_read items (length items) n m refl low is)

module _ (k : Kept) (c : Certificate) where
  abbrev pub ClosedBelow : (n : ℕ) → Type 0
  ClosedBelow n = EachBelow (Closed k.covers c) k.commands n

  module _ (items : List Stored) (same : map view items ≡ k.commands) (n : ℕ) where
    pub closed_more : (m : Stored) → n < length items → m ≡ get_or items n m → ClosedBelow n → Closed k.covers c (view m) → ClosedBelow (n + 1)
    closed_more m low is below here = each_with (Closed k.covers c) k.commands n (view m) (command_at k.commands items n m same low is) below here

    pub first_escaped : (m : Stored) (e : Escape) → n < length items → m ≡ get_or items n m → ClosedBelow n → IsEscape k.covers c (view m) e → IsLowestEscape k c n e
    first_escaped m e low is below escape = (
      (view m, command_at k.commands items n m same low is, escape),
      λ o under escaped. closed_no_escape k.covers c escaped.0 escaped.2 (below o escaped.0 under escaped.1) escaped.3,
    )

    pub all_closed : length items ≤ n → ClosedBelow n → ClosedUnderAll k c
    all_closed all below = each_there (Closed k.covers c) k.commands n (rw (ap length (sym same), length-map items view) all) below

-- the same of bans
module _ (c : Certificate) (bans : List Ban) where
  abbrev pub UnmetBelow : (n : ℕ) → Type 0
  UnmetBelow n = EachBelow (λ ban. Meets c ban → ⊥) bans n

  module _ (n : ℕ) where
    pub unmet_more : (items : List Ban) (d : Ban) → items ≡ bans → n < length items → UnmetBelow n → (Meets c (get_or items n d) → ⊥) → UnmetBelow (n + 1)
    unmet_more items d same low below here =
        each_with (λ ban. Meets c ban → ⊥) bans n (get_or items n d) (ap (λ xs. slice_get xs n) (sym same) ∙ slice_get-get_or items n d low) below here

    pub first_met : (items : List Ban) (d : Ban) (u v : Stamp) → items ≡ bans → n < length items → UnmetBelow n → MetBy c (get_or items n d) u v → IsLowestMet c bans n u v
    first_met items d u v same low below met = (
      (get_or items n d, ap (λ xs. slice_get xs n) (sym same) ∙ slice_get-get_or items n d low, met),
      λ m under other. below m other.0 under other.1 other.2,
    )

    pub all_unmet : (items : List Ban) → items ≡ bans → length items ≤ n → UnmetBelow n → MeetsNone c bans
    all_unmet items same all below m met = each_there (λ ban. Meets c ban → ⊥) bans n (rw (ap length (sym same)) all) below m met.0 met.1 met.2
