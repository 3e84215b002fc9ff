-- How growing a table goes on: one growth after the other, for what is asked of each or of all.
use Rattle.std.proofs.Common.{◌≡◌, ℕ, ◌+◌, Bool, true, false, ◌||◌, List, Some, slice_get, sym, subst, ◌∙◌, arith}
use Rattle.std.proofs.lemmas.Bool.{or_parts, true≢false}
use Rattle.scheme.specs.Commands.{Command}
use Rattle.certificates.specs.Certificates.{Certificate}
use Rattle.certificates.proofs.Each.{EachBelow, each_with}
use Rattle.castings.specs.Closure.{Closed}
use Rattle.checker.specs.Judgements.{ClosedUnderEach}
use Rattle.maker.specs.declared.need.Need.{Need}
use Rattle.maker.specs.Closing.{Changed, Turned}
use Rattle.maker.specs.Comparing.{Above}
use Rattle.maker.specs.Growing.{GrownFor, Outgrown, Has, Grown, Bursts}
use Rattle.maker.specs.Needs.{NeededBy}
use Rattle.maker.proofs.Comparing.{above_self, above_both}

module _ (Asked : Certificate → Type 0) where
  pub grown_self : (c : Certificate) → GrownFor Asked c c
  grown_self c = record { says_all = above_self c; least = λ d above asked. above }

  pub grown_both : (a b c : Certificate) → GrownFor Asked a b → GrownFor Asked b c → GrownFor Asked a c
  grown_both a b c first second = record {
    says_all = above_both c b a second.says_all first.says_all;
    least = λ d above asked. second.least d (first.least d above asked) asked;
  }

  -- changed or not, it has grown
  pub grown_so : (a b : Certificate) (changed : Bool) → Changed Asked a b changed → GrownFor Asked a b
  grown_so a b true change = change.1
  grown_so a b false same = subst (GrownFor Asked a) (sym same) (grown_self a)

  -- a change after what came before, and before what comes after
  pub changed_then : (a b c : Certificate) (before : Bool) → Changed Asked a b before → Changed Asked b c true → Changed Asked a c true
  changed_then a b c true first second = (omega (arith, first.0, second.0), grown_both a b c first.1 second.1)
  changed_then a b c false same second = subst (λ t. Changed Asked t c true) same second

  pub changed_both : (a b c : Certificate) (before after : Bool) → Changed Asked a b before → Changed Asked b c after → Changed Asked a c (before || after)
  changed_both a b c true true first second = changed_then a b c true first second
  changed_both a b c true false first same = subst (λ t. Changed Asked a t true) (sym same) first
  changed_both a b c false true same second = changed_then a b c false same second
  changed_both a b c false false same same_too = same_too ∙ same

  pub not_changed : (a b : Certificate) (changed : Bool) → Changed Asked a b changed → changed ≡ false → b ≡ a
  not_changed a b true change h = absurd (true≢false h)
  not_changed a b false same h = same

  -- Where it can't go on, it could not be begun.
  pub outgrown_before : (a b : Certificate) → GrownFor Asked a b → Outgrown Asked b → Outgrown Asked a
  outgrown_before a b grown outgrown d (above, asked) = outgrown d (grown.least d above asked, asked)

-- What is grown for one thing is grown for whatever asks for this too.
module _ (Asked More : Certificate → Type 0) (a : Certificate) (asks : (d : Certificate) → Above d a → More d → Asked d) where
  pub grown_for_more : (b : Certificate) → GrownFor Asked a b → GrownFor More a b
  grown_for_more b grown = record { says_all = grown.says_all; least = λ d above more. grown.least d above (asks d above more) }

  pub changed_for_more : (b : Certificate) (changed : Bool) → Changed Asked a b changed → Changed More a b changed
  changed_for_more b true change = (change.0, grown_for_more b change.1)
  changed_for_more b false same = same

  pub outgrown_for_more : Outgrown Asked a → Outgrown More a
  outgrown_for_more outgrown d (above, more) = outgrown d (above, asks d above more)

-- A turn over the commands, one more of them tried.
module _ (covers : ℕ → ℕ → ℕ → Bool) (commands : List Command) (number : ℕ) (m : Command) (there : slice_get commands number ≡ Some m) where
  abbrev one : Certificate → Type 0
  one d = Closed covers d m

  asked_by_all : (t d : Certificate) → Above d t → ClosedUnderEach covers commands d → one d
  asked_by_all t d above each = each number m there

  pub changed_more : (a b c : Certificate) (before after : Bool) → Changed (ClosedUnderEach covers commands) a b before → Turned one b c after → Changed (ClosedUnderEach covers commands) a c (before || after)
  changed_more a b c before after first turned =
      changed_both (ClosedUnderEach covers commands) a b c before after first
      (changed_for_more one (ClosedUnderEach covers commands) b (asked_by_all b) c after turned.change)

  pub closed_more : (b c : Certificate) (before after : Bool) → (before ≡ false → EachBelow (Closed covers b) commands number) → Turned one b c after → (before || after) ≡ false → EachBelow (Closed covers c) commands (number + 1)
  closed_more b c before after each turned unchanged =
      let parts = or_parts before after unchanged in
      let same = not_changed one b c after turned.change parts.1 in
      each_with (Closed covers c) commands number m there
      (subst (λ t. EachBelow (Closed covers t) commands number) (sym same) (each parts.0))
      (turned.unchanged parts.1)

  pub outgrown_more : (b : Certificate) → Outgrown one b → Outgrown (ClosedUnderEach covers commands) b
  outgrown_more b = outgrown_for_more one (ClosedUnderEach covers commands) b (asked_by_all b)

-- What a casting needs is asked for by the command.
module _ (covers : ℕ → ℕ → ℕ → Bool) (m : Command) (t : Certificate) (need : Need) (needed : NeededBy covers t m need) where
  pub grown_by_need : (u : Certificate) → Grown t need u → GrownFor (λ d. Closed covers d m) t u
  grown_by_need u added = grown_for_more (λ d. Has d need) (λ d. Closed covers d m) t needed.needed u added.grown

  pub outgrown_by_need : Bursts t need → Outgrown (λ d. Closed covers d m) t
  outgrown_by_need = outgrown_for_more (λ d. Has d need) (λ d. Closed covers d m) t needed.needed
