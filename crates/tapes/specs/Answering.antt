-- What it is to answer for a tape. `Encodes` says which bytes encode what.
use Rattle.std.specs.Prelude.{◌≡◌, ℕ, List}
use Rattle.model.specs.Answers.{Answer, accepted, refused}
use Rattle.model.specs.Faults.{layer_number}
use Rattle.tapes.specs.declared.tape.Tape.{Tape}
use Rattle.tapes.specs.Grammars.{Grammar, Refused}
use Rattle.tapes.specs.Tapes.{layer_of}

-- refused as the grammar says, in the layer of the tape
abbrev pub RefusedIn : {I D : Type 0} → Tape → Grammar I D → List ℕ → (layer number place : ℕ) → Type 0
RefusedIn tape g bytes layer number place = (layer ≡ layer_number (layer_of tape)) × Refused g bytes number place

-- Accepted: the bytes encode this. Refused: for their length, or at the first order (or the end) that breaks a rule.
abbrev pub TapeRead : {I D X : Type 0} → Tape → Grammar I D → (Encodes : List ℕ → X → Type 0) → List ℕ → Answer X → Type 0
TapeRead tape g Encodes bytes (accepted x) = Encodes bytes x
TapeRead tape g Encodes bytes (refused layer number place) = RefusedIn tape g bytes layer number place

-- Bytes are accepted exactly if they encode something, and then as that.
abbrev pub AcceptedAsEncoded : {X : Type 0} → (Encodes : List ℕ → X → Type 0) → List ℕ → Answer X → Type 0
AcceptedAsEncoded {X} Encodes bytes answer = (x : X) → (answer ≡ accepted x → Encodes bytes x) × (Encodes bytes x → answer ≡ accepted x)

-- No bytes have two right answers.
abbrev pub OneAnswer : {I D X : Type 0} → Tape → Grammar I D → (Encodes : List ℕ → X → Type 0) → Type 0
OneAnswer {I} {D} {X} tape g Encodes = (bytes : List ℕ) (a b : Answer X) → TapeRead tape g Encodes bytes a → TapeRead tape g Encodes bytes b → a ≡ b
