-- Where a text first passes a test: what stands before that place, and from there on.
use Rattle.std.proofs.Common.{◌≡◌, ℕ, ◌+◌, ◌<◌, Bool, true, false, not, List, [], ◌∷◌, ◌++◌, length, get_or, take, drop, unwrap_or, subst, arith}
use Rattle.std.specs.Prelude.{⊤, IsFalse, All, position}
use Rattle.std.specs.List.{position_or_len}
use Rattle.std.proofs.lemmas.Bool.{cond_both}
use Rattle.std.proofs.lemmas.Bool.Decides.{nat_tests}
use Rattle.std.proofs.lemmas.Grind.{common_steps}
use Rattle.std.proofs.lemmas.List.{places, get_or_append_left, drop-drop}
use Rattle.std.proofs.lemmas.List.Sums.{position_or_len_is, fails_before_first, prefix_len-le-length}

-- what `position` and `unwrap_or` give together
pub at_position : (p : ℕ → Bool) (text : List ℕ) → unwrap_or (position p text) (length text) ≡ position_or_len p text
at_position p text = let le = prefix_len-le-length (λ x. not (p x)) text in grind (arith, nat_tests, common_steps)

module _ (p : ℕ → Bool) where
  -- the text is at its end, or goes on with a byte that passes
  abbrev pub Stops : List ℕ → Type 0
  Stops [] = ⊤
  Stops (b ∷ text) = p b ≡ true

  -- no byte before that place passes, and the one there does
  pub before_fails : (text : List ℕ) → All (λ b. IsFalse (p b)) (take (position_or_len p text) text)
  before_fails text = λ k d l. grind (arith, places, fails_before_first p text k d)

  pub there_stops : (text : List ℕ) → Stops (drop (position_or_len p text) text)
  there_stops [] = tt
  there_stops (b ∷ text) =
      cond_both (not (p b)) (1 + position_or_len p text) 0 (λ n. Stops (drop n (b ∷ text))) (λ _. subst Stops (drop-drop (position_or_len p text) 1 (b ∷ text)) (there_stops text)) (λ is. grind arith)

  -- and where that holds, it is the place
  pub place_is : (front rest : List ℕ) → All (λ b. IsFalse (p b)) front → Stops rest → position_or_len p (front ++ rest) ≡ length front
  place_is front [] fails stops = position_or_len_is p (front ++ []) (length front) 0 (grind (arith, places)) (λ k l. rw get_or_append_left (fails k 0 l)) (λ l. absurd (grind (arith, places)))
  place_is front (b ∷ rest) fails stops = position_or_len_is p (front ++ b ∷ rest) (length front) 0 (grind (arith, places)) (λ k l. rw get_or_append_left (fails k 0 l)) (λ l. grind (arith, places))

  -- it is past the first byte where that one does not pass
  pub place_past : (text : List ℕ) → 0 < length text → p (get_or text 0 0) ≡ false → 0 < position_or_len p text
  place_past [] some is = absurd (omega arith)
  place_past (b ∷ text) some is = rw is (omega arith)
