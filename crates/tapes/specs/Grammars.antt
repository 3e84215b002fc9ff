-- The language of a tape, and what it is to read one. Each of the four tapes has its own grammar.
use Rattle.std.specs.Prelude.{◌≡◌, ℕ, ◌<◌, ◌≤◌, Bool, true, false, ◌⊎◌, List, [], ◌∷◌, ◌++◌, length, Some, None, Option, ◌≢◌}
use Rattle.std.specs.List.{flat_map}

-- I is what one order says, D what has been read so far.
pub record Grammar (I D : Type 0) : Type 0 where
  -- the bytes of an order
  pub code : I → List ℕ
  -- what has been read before the first order
  pub start : D
  -- the lowest rule that the order breaks, coming after what has been read, if it breaks any
  pub broken : D → I → Option ℕ
  -- what has been read with this order too
  pub extended : D → I → D
  -- the tape may not end here
  pub unfinished : D → Bool

-- these orders, one after the other, break no rule, and lead from the first to the last
pub data Runs {I D : Type 0} (g : Grammar I D) : D → List I → D → Type 0 where
  done : {d : D} → Runs g d [] d
  then : {d e : D} {i : I} {is : List I} → g.broken d i ≡ None → Runs g (g.extended d i) is e → Runs g d (i ∷ is) e

-- the bytes of orders, one after the other
abbrev pub codes : {I D : Type 0} → Grammar I D → List I → List ℕ
codes g is = flat_map g.code is

-- Why reading cannot go on, by the number of the rule: there is no order, or there is one that breaks a rule, or the
-- tape ends where it may not.
pub data Fails {I D : Type 0} (g : Grammar I D) (d : D) (rest : List ℕ) (number : ℕ) : Type 0 where
  no_order : (rest ≢ []) → ((i : I) (after : List ℕ) → rest ≢ g.code i ++ after) → number ≡ 2 → Fails g d rest number
  breaks_rule : (i : I) (after : List ℕ) → rest ≡ g.code i ++ after → g.broken d i ≡ Some number → Fails g d rest number
  cut_short : rest ≡ [] → g.unfinished d ≡ true → number ≡ 3 → Fails g d rest number

-- The first order that breaks a rule stands at this place: none of the orders before it does.
pub record Stopped {I D : Type 0} (g : Grammar I D) (tape : List ℕ) (number place : ℕ) : Type 0 where
  pub before : List I
  pub reached : D
  pub rest : List ℕ
  pub lawful : Runs g g.start before reached
  pub split : tape ≡ codes g before ++ rest
  pub here : place ≡ length (codes g before)
  pub why : Fails g reached rest number

-- a tape is refused for its length, or at the first order (or the end) that breaks a rule
abbrev pub Refused : {I D : Type 0} → Grammar I D → List ℕ → (number place : ℕ) → Type 0
Refused g tape number place =
    ((65535 < length tape) × (number ≡ 1) × (place ≡ 65535)) ⊎ ((length tape ≤ 65535) × Stopped g tape number place)

-- the whole tape is orders that break no rule, it may end there, and this is what has been read
pub record Whole {I D : Type 0} (g : Grammar I D) (tape : List ℕ) (d : D) : Type 0 where
  pub orders : List I
  pub lawful : Runs g g.start orders d
  pub split : tape ≡ codes g orders
  pub finished : g.unfinished d ≡ false
