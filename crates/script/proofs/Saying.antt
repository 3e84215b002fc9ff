-- What a line says, by the text past its blanks, and that it says one thing.
use Rattle.std.proofs.Common.{◌≡◌, ℕ, ◌<◌, true, false, cond, ◌⊎◌, List, [], ◌∷◌, ◌++◌, length, codes, sym, refl, ap, ◌∙◌, subst, inl, inr, ⊎_elim, arith}
use Rattle.std.specs.Str.{bytes_eq}
use Rattle.std.proofs.lemmas.Bool.{eqb-true, both_ways}
use Rattle.script.specs.declared.keyword.Keyword.{Keyword}
use Rattle.script.specs.Words.{Blanks, Begins, Alone, past_blanks, front_word, past_word}
use Rattle.script.specs.Hex.{Spells}
use Rattle.script.specs.Settings.{Sized, Filters}
use Rattle.script.specs.Series.{Series}
use Rattle.script.specs.Sides.{SpellsBoth}
use Rattle.script.specs.Making.{Buffered}
use Rattle.script.specs.Keywords.{spelling}
use Rattle.script.specs.Calls.{Call, nothing, scheme, list, board, records, filter, «open», request, rule, state, check, make, table, Asks, asks_scheme, asks_list, asks_board, asks_records, asks_filter, asks_open, asks_request, asks_rule, asks_state, asks_check, asks_make, asks_table, Says, blank_line, remark_line, call_line, OneCall, silent}
use Rattle.script.proofs.Spelling.{one_spelling}
use Rattle.script.proofs.Giving.{one_size, board_or_list, one_filter, one_buffer}
use Rattle.script.proofs.Leading.{one_series}
use Rattle.script.proofs.Siding.{one_both}
use Rattle.script.proofs.Parting.{margin, margin_blanks, margin_whole, past_margin, blanks_past, past_none, begins_with, begun_by, word_is, one_beginning}

-- what each keyword asks for, read backward
abbrev pub Asked : Keyword → List ℕ → Call → Type 0
Asked Keyword.Scheme rest call = (bytes : List ℕ) × Spells rest bytes × (call ≡ scheme bytes)
Asked Keyword.List rest call = Blanks rest × (call ≡ list)
Asked Keyword.Store rest call = (Alone rest (codes "board") × (call ≡ board)) ⊎ ((n : ℕ) × Sized rest n × (call ≡ records n))
Asked Keyword.Filter rest call = (k : ℕ) × (m : ℕ) × Filters rest k m × (call ≡ filter k m)
Asked Keyword.Open rest call = (bytes : List ℕ) × Spells rest bytes × (call ≡ «open» bytes)
Asked Keyword.Request rest call = (command : ℕ) × (names : List ℕ) × Series rest (command ∷ names) × (call ≡ request command names)
Asked Keyword.Rule rest call = (s : ℕ) × (o : ℕ) × (r : ℕ) × Series rest (s ∷ o ∷ r ∷ []) × (call ≡ rule s o r)
Asked Keyword.State rest call = Blanks rest × (call ≡ state)
Asked Keyword.Check rest call = (xs : List ℕ) × (ys : List ℕ) × SpellsBoth rest xs ys × (call ≡ check xs ys)
Asked Keyword.Make rest call = (n : ℕ) × (text : List ℕ) × (bans : List ℕ) × Buffered rest n text × Spells text bans × (call ≡ make n bans)
Asked Keyword.Table rest call = Blanks rest × (call ≡ table)

pub asked : {key : Keyword} {rest : List ℕ} {call : Call} → Asks key rest call → Asked key rest call
asked (asks_scheme {rest} {bytes} s) = (bytes, s, refl)
asked (asks_list rest bs) = (bs, refl)
asked (asks_board a) = inl (a, refl)
asked (asks_records {rest} {n} s) = inr (n, s, refl)
asked (asks_filter {rest} {k} {m} f) = (k, m, f, refl)
asked (asks_open {rest} {bytes} s) = (bytes, s, refl)
asked (asks_request {rest} {names} {command} s) = (command, names, s, refl)
asked (asks_rule {rest} {s} {o} {r} n) = (s, o, r, n, refl)
asked (asks_state rest bs) = (bs, refl)
asked (asks_check {rest} {certificate} {bans} s) = (certificate, bans, s, refl)
asked (asks_make {rest} {text} {bans} {size} b s) = (size, text, bans, b, s, refl)
asked (asks_table rest bs) = (bs, refl)

one_asked : {key : Keyword} {rest : List ℕ} {c d : Call} → Asks key rest c → Asks key rest d → c ≡ d
one_asked (asks_scheme s) q = let other = asked q in ap scheme (one_spelling _ _ _ s other.1) ∙ sym other.2
one_asked (asks_list rest bs) q = sym (asked q).1
one_asked (asks_board a) q = ⊎_elim (λ x. sym x.1) (λ x. absurd (board_or_list a x.1)) (asked q)
one_asked (asks_records s) q =
    ⊎_elim (λ x. absurd (board_or_list x.0 s)) (λ x. ap records (one_size s x.1) ∙ sym x.2) (asked q)
one_asked (asks_filter {rest} {k} {m} f) q =
    let other = asked q in
    let same = one_filter f other.2 in
    ap (λ j. filter j m) same.0 ∙ ap (filter other.0) same.1 ∙ sym other.3
one_asked (asks_open s) q = let other = asked q in ap «open» (one_spelling _ _ _ s other.1) ∙ sym other.2
one_asked (asks_request s) q =
    let other = asked q in
    let same = one_series s (other.0 ∷ other.1) other.2 in
    let is = other.3 in
    cc
one_asked (asks_rule n) q =
    let other = asked q in
    let same = one_series n (other.0 ∷ other.1 ∷ other.2 ∷ []) other.3 in
    let is = other.4 in
    cc
one_asked (asks_state rest bs) q = sym (asked q).1
one_asked (asks_check s) q =
    let other = asked q in
    let same = one_both s other.2 in
    let is = other.3 in
    cc
one_asked (asks_make {bans = bans} {size} b s) q =
    let other = asked q in
    let same = one_buffer b other.3 in
    ap (make size) (one_spelling _ _ _ (subst (λ t. Spells t bans) same.1 s) other.4) ∙ ap (λ n. make n other.2) same.0 ∙ sym other.5
one_asked (asks_table rest bs) q = sym (asked q).1

-- the keyword that is spelt so
abbrev spelt_so : List ℕ → Keyword
spelt_so word =
    cond (bytes_eq word (codes "scheme")) Keyword.Scheme
    (cond (bytes_eq word (codes "list")) Keyword.List
    (cond (bytes_eq word (codes "store")) Keyword.Store
    (cond (bytes_eq word (codes "filter")) Keyword.Filter
    (cond (bytes_eq word (codes "open")) Keyword.Open
    (cond (bytes_eq word (codes "request")) Keyword.Request
    (cond (bytes_eq word (codes "rule")) Keyword.Rule
    (cond (bytes_eq word (codes "state")) Keyword.State
    (cond (bytes_eq word (codes "check")) Keyword.Check
    (cond (bytes_eq word (codes "make")) Keyword.Make Keyword.Table)))))))))

spelt_back : (key : Keyword) → spelt_so (spelling key) ≡ key
spelt_back Keyword.Scheme = refl
spelt_back Keyword.List = refl
spelt_back Keyword.Store = refl
spelt_back Keyword.Filter = refl
spelt_back Keyword.Open = refl
spelt_back Keyword.Request = refl
spelt_back Keyword.Rule = refl
spelt_back Keyword.State = refl
spelt_back Keyword.Check = refl
spelt_back Keyword.Make = refl
spelt_back Keyword.Table = refl

-- two keywords are not spelt alike
one_key : (j k : Keyword) → spelling j ≡ spelling k → j ≡ k
one_key j k e = sym (spelt_back j) ∙ ap spelt_so e ∙ spelt_back k

-- no keyword begins like a remark
loud : (key : Keyword) (rest : List ℕ) → silent (spelling key ++ rest) ≡ false
loud Keyword.Scheme rest = refl
loud Keyword.List rest = refl
loud Keyword.Store rest = refl
loud Keyword.Filter rest = refl
loud Keyword.Open rest = refl
loud Keyword.Request rest = refl
loud Keyword.Rule rest = refl
loud Keyword.State rest = refl
loud Keyword.Check rest = refl
loud Keyword.Make rest = refl
loud Keyword.Table rest = refl

-- nor is one empty
some : (word : List ℕ) → silent (word ++ []) ≡ false → 0 < length word
some [] is = absurd (grind arith)
some (b ∷ word) is = omega arith

some_key : (key : Keyword) → 0 < length (spelling key)
some_key key = some (spelling key) (loud key [])

-- a line of blanks and a remark are silent, and a line that begins with a keyword is not
silent_blanks : (line : List ℕ) → Blanks line → silent (past_blanks line) ≡ true
silent_blanks line bs = ap silent (blanks_past line bs)

silent_remark : (front rest : List ℕ) → Blanks front → silent (past_blanks (front ++ (codes "#" ++ rest))) ≡ true
silent_remark front rest bs = ap silent (past_margin front (codes "#" ++ rest) bs)

heard : (key : Keyword) (line rest : List ℕ) → Begins line (spelling key) rest → silent (past_blanks line) ≡ false
heard key line rest b = ap silent (begun_by line (spelling key) rest b) ∙ loud key rest

-- where nothing follows the blanks but a remark, the line says nothing
silent_at : (line text : List ℕ) → past_blanks line ≡ text → silent text ≡ true → Says line nothing
silent_at line [] e is = blank_line line (past_none line e)
silent_at line (b ∷ text) e is =
    let hash : b ≡ 35 = eqb-true b 35 is in
    let whole : line ≡ margin line ++ (35 ∷ text) = margin_whole line ∙ ap (λ t. margin line ++ t) (e ∙ ap (λ x. x ∷ text) hash) in
    subst (λ l. Says l nothing) (sym whole) (remark_line (margin line) text (margin_blanks line))

pub silent_says : (line : List ℕ) → silent (past_blanks line) ≡ true → Says line nothing
silent_says line is = silent_at line (past_blanks line) refl is

silent_call : {line : List ℕ} {call : Call} → Says line call → silent (past_blanks line) ≡ true → call ≡ nothing
silent_call (blank_line line bs) is = refl
silent_call (remark_line front rest bs) is = refl
silent_call (call_line {key} {line} {rest} b a) is = absurd (both_ways _ (heard key line rest b) is)

-- a line that begins with a keyword says what the keyword asks for
pub begins_key : (line word rest : List ℕ) (key : Keyword) → word ≡ front_word (past_blanks line) → rest ≡ past_word (past_blanks line) → word ≡ spelling key → Begins line (spelling key) rest
begins_key line word rest key w r is =
    subst (λ x. Begins line x rest) is (begins_with line word rest w r (subst (λ x. 0 < length x) (sym is) (some_key key)))

pub asked_by : {key : Keyword} {line rest : List ℕ} {call : Call} → Begins line (spelling key) rest → Says line call → Asks key rest call
asked_by {key} {rest = rest} b (blank_line line bs) = absurd (both_ways _ (heard key line rest b) (silent_blanks line bs))
asked_by {key} {rest = left} b (remark_line front rest bs) = absurd (both_ways _ (heard key (front ++ (codes "#" ++ rest)) left b) (silent_remark front rest bs))
asked_by {key} {rest = rest} {call} b (call_line {key = k} b' a) =
    let one = one_beginning b' b in
    subst (λ x. Asks x rest call) (one_key k key one.0) (subst (λ t. Asks k t call) one.1 a)

-- and one that begins with none says nothing that can be read
pub no_key_says : (line : List ℕ) → silent (past_blanks line) ≡ false → ((key : Keyword) → front_word (past_blanks line) ≡ spelling key → ⊥) → (call : Call) → Says line call → ⊥
no_key_says _ is none call (blank_line line bs) = both_ways _ is (silent_blanks line bs)
no_key_says _ is none call (remark_line front rest bs) = both_ways _ is (silent_remark front rest bs)
no_key_says _ is none call (call_line {key} {line} {rest} b a) = none key (word_is line (spelling key) rest b)

said_once : {line : List ℕ} {c d : Call} → Says line c → Says line d → c ≡ d
said_once (blank_line line bs) q = sym (silent_call q (silent_blanks line bs))
said_once (remark_line front rest bs) q = sym (silent_call q (silent_remark front rest bs))
said_once (call_line b a) q = one_asked a (asked_by b q)

pub one_call : OneCall
one_call line c d p q = said_once p q
