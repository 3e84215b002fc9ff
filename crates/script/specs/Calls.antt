-- What a line of a script says.
use Rattle.std.specs.Prelude.{◌≡◌, ℕ, Bool, true, List, [], ◌∷◌, ◌++◌, Some, None, vec_items, codes, Option, ◌==◌}
use Rattle.script.specs.declared.keyword.Keyword.{Keyword}
use Rattle.script.specs.declared.line.Call.{Call as Asked}
use Rattle.script.specs.declared.line.Call.TheVariants.{Scheme, List as Listing, StoreBoard, StoreList, Filter, Open, Request, Rule, State, Check, Make, Table}
use Rattle.script.specs.Words.{Blanks, Begins, Alone}
use Rattle.script.specs.Keywords.{spelling}
use Rattle.script.specs.Hex.{Spells, Opens}
use Rattle.script.specs.Settings.{Sized, Filters}
use Rattle.script.specs.Series.{Series, Named}
use Rattle.script.specs.Sides.{SpellsBoth, OpensEither}
use Rattle.script.specs.Making.{Buffered, OpensBans}

-- What a line can call for. To call for `nothing` is to be passed over.
pub data Call : Type 0 where
  nothing : Call
  scheme : List ℕ → Call
  list : Call
  -- Cells are to be kept on a board.
  board : Call
  -- Cells are to be kept in a list of so many records.
  records : ℕ → Call
  -- A filter is set on an attribute, for the rights of a mask.
  filter : (attribute mask : ℕ) → Call
  -- The register is opened by a tape. The quotes keep the word apart from one of antt's own.
  «open» : List ℕ → Call
  -- A command is asked for, with names for its parameters.
  request : (command : ℕ) → (names : List ℕ) → Call
  -- A right is asked about, in the cell of a row and a column.
  rule : (row column right : ℕ) → Call
  state : Call
  -- The tapes of a certificate and of bans are checked.
  check : (certificate bans : List ℕ) → Call
  -- A certificate is made in a buffer of this size, against the bans of a tape.
  make : (size : ℕ) → (bans : List ℕ) → Call
  -- The certificate that was made or accepted last is shown.
  table : Call

-- What a keyword asks for, by the text after it.
pub data Asks : Keyword → List ℕ → Call → Type 0 where
  -- `scheme` asks for a scheme of the bytes that are spelt after it, which may be none.
  asks_scheme : {rest bytes : List ℕ} → Spells rest bytes → Asks Keyword.Scheme rest (scheme bytes)
  -- `list` stands alone.
  asks_list : (rest : List ℕ) → Blanks rest → Asks Keyword.List rest list
  -- `store board` asks for a board.
  asks_board : {rest : List ℕ} → Alone rest (codes "board") → Asks Keyword.Store rest board
  -- `store list` asks for a list of the size after it.
  asks_records : {rest : List ℕ} {n : ℕ} → Sized rest n → Asks Keyword.Store rest (records n)
  -- `filter` asks for a filter of the attribute and the mask after it.
  asks_filter : {rest : List ℕ} {k m : ℕ} → Filters rest k m → Asks Keyword.Filter rest (filter k m)
  -- `open` asks for an opening of the bytes that are spelt after it, which may be none.
  asks_open : {rest bytes : List ℕ} → Spells rest bytes → Asks Keyword.Open rest («open» bytes)
  -- `request` asks for the command of the first number after it, with the names of the others, which may be none.
  asks_request : {rest names : List ℕ} {command : ℕ} → Series rest (command ∷ names) → Asks Keyword.Request rest (request command names)
  -- `rule` asks about the three numbers after it: a row, a column and a right.
  asks_rule : {rest : List ℕ} {s o r : ℕ} → Series rest (s ∷ o ∷ r ∷ []) → Asks Keyword.Rule rest (rule s o r)
  -- `state` stands alone.
  asks_state : (rest : List ℕ) → Blanks rest → Asks Keyword.State rest state
  -- `check` asks for a check of the two tapes that are spelt after it. Either may have no bytes.
  asks_check : {rest certificate bans : List ℕ} → SpellsBoth rest certificate bans → Asks Keyword.Check rest (check certificate bans)
  -- `make` asks for a making with the size that is said, against the bans that are spelt, which may have no bytes.
  asks_make : {rest text bans : List ℕ} {size : ℕ} → Buffered rest size text → Spells text bans → Asks Keyword.Make rest (make size bans)
  -- `table` stands alone.
  asks_table : (rest : List ℕ) → Blanks rest → Asks Keyword.Table rest table

-- `Says line call`: this is what the line says. A line of which these rules show no call is unreadable.
pub data Says : List ℕ → Call → Type 0 where
  -- A line of blanks is passed over.
  blank_line : (line : List ℕ) → Blanks line → Says line nothing
  -- So is a line whose first byte that is no blank is `#`.
  remark_line : (margin rest : List ℕ) → Blanks margin → Says (margin ++ (codes "#" ++ rest)) nothing
  -- A line whose first word is a keyword says what the keyword asks for.
  call_line : {key : Keyword} {line rest : List ℕ} {call : Call} → Begins line (spelling key) rest → Asks key rest call → Says line call

-- No line says two different things.
abbrev pub OneCall : Type 0
OneCall = (line : List ℕ) (c d : Call) → Says line c → Says line d → c ≡ d

-- Memory is wanted for the bytes of a scheme, of an opening, of the tapes of a check or of the bans of a making, if there is a
-- first one, for the names of a request, if there are a command and a first one, and for no other call.
abbrev pub Wants : Keyword → List ℕ → Type 0
Wants Keyword.Scheme rest = Opens rest
Wants Keyword.List rest = ⊥
Wants Keyword.Store rest = ⊥
Wants Keyword.Filter rest = ⊥
Wants Keyword.Open rest = Opens rest
Wants Keyword.Request rest = Named rest
Wants Keyword.Rule rest = ⊥
Wants Keyword.State rest = ⊥
Wants Keyword.Check rest = OpensEither rest
Wants Keyword.Make rest = OpensBans rest
Wants Keyword.Table rest = ⊥

-- Memory is wanted for the call that this line begins.
pub record Wanting (line : List ℕ) : Type 0 where
  pub key : Keyword
  pub rest : List ℕ
  pub begun : Begins line (spelling key) rest
  pub wants : Wants key rest

-- The call that a reader's answer stands for.
abbrev pub asked_call : Asked → Call
asked_call (Scheme tape) = scheme (vec_items tape)
asked_call Listing = list
asked_call StoreBoard = board
asked_call (StoreList n) = records n
asked_call (Filter k m) = filter k m
asked_call (Open tape) = «open» (vec_items tape)
asked_call (Request command names) = request command (vec_items names)
asked_call (Rule row column right) = rule row column right
asked_call State = state
asked_call (Check certificate bans) = check (vec_items certificate) (vec_items bans)
asked_call (Make size bans) = make size (vec_items bans)
asked_call Table = table

abbrev pub call_of : Option Asked → Call
call_of None = nothing
call_of (Some asked) = asked_call asked

-- Past its blanks, a line that says nothing is at its end, or goes on with `#`.
abbrev pub silent : List ℕ → Bool
silent [] = true
silent (b ∷ text) = b == 35
