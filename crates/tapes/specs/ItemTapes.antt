-- Tapes on which each order is an item, and may be the last.
use Rattle.std.specs.Prelude.{◌≡◌, ℕ, ◌≤◌, Bool, true, false, List, [], ◌∷◌, ◌++◌, length, Option, is_none}
use Rattle.std.specs.List.{flat_map}
use Rattle.model.specs.Lists.{each_after}
use Rattle.tapes.specs.Grammars.{Grammar}

-- what has been read are the items so far
abbrev pub items_grammar : {I : Type 0} → (code : I → List ℕ) → (broken : List I → I → Option ℕ) → Grammar I (List I)
items_grammar code broken =
    record {
      code = code;
      start = [];
      broken = broken;
      extended = λ items i. items ++ i ∷ [];
      unfinished = λ items. false;
    }

-- No item breaks a rule after those before it.
abbrev pub well_formed_items : {I : Type 0} → (broken : List I → I → Option ℕ) → List I → Bool
well_formed_items broken items = each_after (λ before i. is_none (broken before i)) [] items

-- The tape is not too long, it is the encoding of these items, and they are well-formed. Where an item may be repeated there are
-- well-formed items whose encoding is longer than a tape.
abbrev pub EncodesItems : {I : Type 0} → (code : I → List ℕ) → (broken : List I → I → Option ℕ) → List ℕ → List I → Type 0
EncodesItems code broken tape items = (length tape ≤ 65535) × (tape ≡ flat_map code items) × (well_formed_items broken items ≡ true)

-- The tape encodes items, and they make this.
pub record EncodesMade {I M : Type 0} (code : I → List ℕ) (broken : List I → I → Option ℕ) (made : List I → M) (tape : List ℕ) (m : M) : Type 0 where
  pub items : List I
  pub encodes : EncodesItems code broken tape items
  pub makes : m ≡ made items
