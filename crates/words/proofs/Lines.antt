-- Texts that are written one after the other.
use Rattle.std.proofs.Common.{◌≡◌, ℕ, suc, ◌+◌, ◌<◌, List, [], ◌∷◌, ◌++◌, length, map, take, get_or, add-one, add-zero, zero-add, arith, refl, ap, sym, subst, ◌∙◌, append_assoc, append-nil}
use Rattle.std.specs.Fmt.{HasWritten, IsPlainFormatter}
use Rattle.std.specs.declared.fmt.Formatter.{Formatter}
use Rattle.std.proofs.Output.{has_written_append, has_written_of_eq, writes_in_calls_nil}
use Rattle.std.proofs.lemmas.List.{take_more, length-take-le, length-map, map-append}
use Rattle.words.specs.Lines.{texts_below, texts_from}

-- one text more
texts_more : (text : ℕ → List ℕ) (n : ℕ) → texts_below text n ++ text n ≡ texts_below text (n + 1)
unfolding texts_below
texts_more text n = rw add-one refl

-- the text of one element more
texts_push : {X : Type 0} (text : ℕ → X → List ℕ) (n : ℕ) (xs : List X) (x : X) → texts_from text n xs ++ text (n + length xs) x ≡ texts_from text n (xs ++ x ∷ [])
unfolding texts_from
texts_push text n [] x = rw add-zero (sym (append-nil (text n x)))
texts_push text n (y ∷ ys) x =
    let shifted : n + suc (length ys) ≡ suc n + length ys = omega arith in
    append_assoc (text n y) (texts_from text (suc n) ys) (text (n + suc (length ys)) x) ∙ ap (λ (t : List ℕ). text n y ++ t) (rw shifted (texts_push text (suc n) ys x))

-- the same where the elements are as many as the number says
texts_next : {X : Type 0} (text : ℕ → X → List ℕ) (xs : List X) (i : ℕ) (x : X) → length xs ≡ i → texts_from text 0 xs ++ text i x ≡ texts_from text 0 (xs ++ x ∷ [])
texts_next text xs i x whole =
    let at_end : 0 + length xs ≡ i = rw zero-add whole in
    subst (λ (k : ℕ). texts_from text 0 xs ++ text k x ≡ texts_from text 0 (xs ++ x ∷ [])) at_end (texts_push text 0 xs x)

length_taken : {X : Type 0} (xs : List X) (i : ℕ) → i < length xs → length (take i xs) ≡ i
length_taken xs i lt = length-take-le i xs (omega arith)

-- one element more, seen through `view`
map_more : {Y X : Type 0} (view : Y → X) (ys : List Y) (i : ℕ) (y : Y) → i < length ys → y ≡ get_or ys i y → map view (take (i + 1) ys) ≡ map view (take i ys) ++ view y ∷ []
map_more view ys i y lt is =
    ap (map view) (take_more ys i y lt)
    ∙ map-append view (take i ys) (get_or ys i y ∷ [])
    ∙ ap (λ z. map view (take i ys) ++ view z ∷ []) (sym is)

module _ {W : Type 0} (took : W → List ℕ → W → Type 0) where
  -- before the first, nothing is written
  pub written_none : (text : ℕ → List ℕ) (f : Formatter W) → IsPlainFormatter f → HasWritten took f (texts_below text 0) f
  unfolding texts_below
  written_none text f plain = record { wrote = writes_in_calls_nil took _; plain = plain }

  -- after the texts below n, that of n is written
  pub written_more : (text : ℕ → List ℕ) (n : ℕ) (f g h : Formatter W) → HasWritten took f (texts_below text n) g → HasWritten took g (text n) h → HasWritten took f (texts_below text (n + 1)) h
  written_more text n f g h before now = has_written_of_eq took _ _ _ _ (texts_more text n) (has_written_append took _ _ _ _ _ before now)

  pub written_no_element : {X : Type 0} (text : ℕ → X → List ℕ) (f : Formatter W) → IsPlainFormatter f → HasWritten took f (texts_from text 0 []) f
  unfolding texts_from
  written_no_element text f plain = record { wrote = writes_in_calls_nil took _; plain = plain }

  -- after the texts of the elements before i, that of element i is written
  written_next : {X : Type 0} (text : ℕ → X → List ℕ) (xs more : List X) (i : ℕ) (x : X) (f g h : Formatter W) → length xs ≡ i → more ≡ xs ++ x ∷ [] → HasWritten took f (texts_from text 0 xs) g → HasWritten took g (text i x) h → HasWritten took f (texts_from text 0 more) h
  written_next text xs more i x f g h whole push before now =
      has_written_of_eq took _ _ _ _ (texts_next text xs i x whole ∙ ap (texts_from text 0) (sym push)) (has_written_append took _ _ _ _ _ before now)

  pub written_element : {X : Type 0} (text : ℕ → X → List ℕ) (xs : List X) (i : ℕ) (d : X) (f g h : Formatter W) → i < length xs → HasWritten took f (texts_from text 0 (take i xs)) g → HasWritten took g (text i (get_or xs i d)) h → HasWritten took f (texts_from text 0 (take (i + 1) xs)) h
  written_element text xs i d f g h lt = written_next text _ _ i _ f g h (length_taken xs i lt) (take_more xs i d lt)

  -- the same of elements that are seen through `view`
  pub written_viewed : {Y X : Type 0} (text : ℕ → X → List ℕ) (view : Y → X) (ys : List Y) (i : ℕ) (y : Y) (f g h : Formatter W) → i < length ys → y ≡ get_or ys i y → HasWritten took f (texts_from text 0 (map view (take i ys))) g → HasWritten took g (text i (view y)) h → HasWritten took f (texts_from text 0 (map view (take (i + 1) ys))) h
  written_viewed text view ys i y f g h lt is =
      written_next text _ _ i _ f g h (length-map (take i ys) view ∙ length_taken ys i lt) (map_more view ys i y lt is)
