-- How a line comes apart into blanks, its first word and the rest, and that it does so in one way.
use Rattle.std.proofs.Common.{◌≡◌, ℕ, ◌<◌, Bool, not, List, [], ◌∷◌, ◌++◌, length, take, sym, ap, ◌∙◌, subst, append_assoc, append-nil, arith}
use Rattle.std.specs.Prelude.{IsTrue}
use Rattle.std.specs.List.{position_or_len}
use Rattle.std.proofs.lemmas.Bool.{not-true}
use Rattle.std.proofs.lemmas.List.Elements.{All-append}
use Rattle.std.proofs.lemmas.List.{take-append-drop, take_at, drop_at, length-take}
use Rattle.script.specs.Words.{blank, Blanks, Solid, Word, Over, Begins, Alone, past_blanks, front_word, past_word}
use Rattle.script.proofs.Scanning.{Stops, before_fails, there_stops, place_is, place_past}

-- no blank
abbrev pub solid : ℕ → Bool
solid b = not (blank b)

-- the text does not begin with a blank
abbrev pub Fresh : List ℕ → Type 0
Fresh text = Stops solid text

pub past_fresh : (text : List ℕ) → Fresh (past_blanks text)
past_fresh text = there_stops solid text

-- the blanks before a text
abbrev pub margin : List ℕ → List ℕ
margin text = take (position_or_len solid text) text

pub margin_blanks : (text : List ℕ) → Blanks (margin text)
margin_blanks text = λ k d l. let fails = before_fails solid text k d l in grind arith

pub margin_whole : (text : List ℕ) → text ≡ margin text ++ past_blanks text
margin_whole text = sym (take-append-drop (position_or_len solid text) text)

-- past blanks stands what does not begin with one
pub fresh_stays : (front text : List ℕ) → Blanks front → Fresh text → past_blanks (front ++ text) ≡ text
fresh_stays front text bs fresh =
    drop_at front text _ (sym (place_is solid front text (λ k d l. ap not (bs k d l)) fresh))

-- blanks before a text make no difference to what stands past its own
pub past_margin : (front text : List ℕ) → Blanks front → past_blanks (front ++ text) ≡ past_blanks text
past_margin front text bs =
    ap (λ t. past_blanks (front ++ t)) (margin_whole text)
    ∙ ap past_blanks (sym (append_assoc front (margin text) (past_blanks text)))
    ∙ fresh_stays (front ++ margin text) (past_blanks text) (All-append (λ b. IsTrue (blank b)) front (margin text) bs (margin_blanks text)) (past_fresh text)

pub blanks_past : (text : List ℕ) → Blanks text → past_blanks text ≡ []
blanks_past text bs = subst (λ t. past_blanks t ≡ []) (append-nil text) (past_margin text [] bs)

pub past_none : (text : List ℕ) → past_blanks text ≡ [] → Blanks text
past_none text e = subst Blanks (sym (margin_whole text ∙ ap (λ p. margin text ++ p) e ∙ append-nil _)) (margin_blanks text)

-- the word at the front of a text, and what follows it
over_stops : (rest : List ℕ) → Over rest → Stops blank rest
over_stops [] o = tt
over_stops (b ∷ rest) o = o

stops_over : (rest : List ℕ) → Stops blank rest → Over rest
stops_over [] o = tt
stops_over (b ∷ rest) o = o

front_whole : (text : List ℕ) → text ≡ front_word text ++ past_word text
front_whole text = sym (take-append-drop (position_or_len blank text) text)

front_word_at : (word rest : List ℕ) → Solid word → Over rest → front_word (word ++ rest) ≡ word
front_word_at word rest s o = take_at word rest _ (sym (place_is blank word rest s (over_stops rest o)))

past_word_at : (word rest : List ℕ) → Solid word → Over rest → past_word (word ++ rest) ≡ rest
past_word_at word rest s o = drop_at word rest _ (sym (place_is blank word rest s (over_stops rest o)))

fresh_word : (text : List ℕ) → Fresh text → 0 < length text → 0 < length (front_word text)
fresh_word [] fresh some = absurd (omega arith)
fresh_word (b ∷ text) fresh some =
    omega (arith, place_past blank (b ∷ text) some (not-true _ fresh), length-take (position_or_len blank (b ∷ text)) (b ∷ text))

-- a line that is not blank begins with the word that `split_word` finds
pub begins : (line : List ℕ) → 0 < length (past_blanks line) → Begins line (front_word (past_blanks line)) (past_word (past_blanks line))
begins line some =
    let text = past_blanks line in
    record {
      margin = margin line;
      blanks = margin_blanks line;
      solid = (fresh_word text (past_fresh line) some, before_fails blank text);
      over = stops_over _ (there_stops blank text);
      whole = margin_whole line ∙ ap (λ t. margin line ++ t) (front_whole text);
    }

word_fresh : (word rest : List ℕ) → Word word → Fresh (word ++ rest)
word_fresh [] rest w = absurd (omega (arith, w.0))
word_fresh (b ∷ word) rest w = ap not (w.1 0 0 (omega arith))

-- past the blanks stands the word itself
pub begun_by : (line word rest : List ℕ) → Begins line word rest → past_blanks line ≡ word ++ rest
begun_by line word rest h =
    ap past_blanks h.whole ∙ fresh_stays h.margin (word ++ rest) h.blanks (word_fresh word rest h.solid)

pub word_is : (line word rest : List ℕ) → Begins line word rest → front_word (past_blanks line) ≡ word
word_is line word rest h =
    ap front_word (begun_by line word rest h) ∙ front_word_at word rest h.solid.1 h.over

pub rest_is : (line word rest : List ℕ) → Begins line word rest → past_word (past_blanks line) ≡ rest
rest_is line word rest h =
    ap past_word (begun_by line word rest h) ∙ past_word_at word rest h.solid.1 h.over

-- what `split_word` finds past the blanks is the first word, if it is not empty, and else there is none
pub begins_with : (line word rest : List ℕ) → word ≡ front_word (past_blanks line) → rest ≡ past_word (past_blanks line) → 0 < length word → Begins line word rest
begins_with line word rest w r some =
    let found = begins line (omega (arith, ap length w, length-take (position_or_len blank (past_blanks line)) (past_blanks line))) in
    subst (λ x. Begins line x rest) (sym w) (subst (Begins line (front_word (past_blanks line))) (sym r) found)

pub no_word : (line word word' rest' : List ℕ) → word ≡ front_word (past_blanks line) → length word ≡ 0 → Begins line word' rest' → ⊥
no_word line word word' rest' w none b = omega (arith, b.solid.0, ap length (w ∙ word_is line word' rest' b))

pub one_beginning : {line word rest word' rest' : List ℕ} → Begins line word rest → Begins line word' rest' → (word ≡ word') × (rest ≡ rest')
one_beginning {line} {word} {rest} {word'} {rest'} b b' = (
  sym (word_is line word rest b) ∙ word_is line word' rest' b',
  sym (rest_is line word rest b) ∙ rest_is line word' rest' b',
)

pub one_alone : {text word word' : List ℕ} → Alone text word → Alone text word' → word ≡ word'
one_alone a a' = (one_beginning a.begun a'.begun).0
