-- What a session answers to each call, and what it keeps.
use Rattle.std.specs.Option.{option_map}
use Rattle.std.specs.Prelude.{◌≡◌, ℕ, Bool, List, length, replicate, Some, None, Option, Result, Ok, Err, ⊤, vec_items}
use Rattle.model.specs.Answers as Answers
use Rattle.model.specs.Faults.{layer_number, reason_number}
use Rattle.model.specs.declared.fault.Fault.{Fault as Faulty}
use Rattle.certificates.specs.Certificates.{Certificate}
use Rattle.certificates.specs.Views.{certificate_of}
use Rattle.checker.specs.Checks.{Checked}
use Rattle.checker.specs.declared.flaw.Flaw.{Flaw}
use Rattle.model.specs.declared.stamp.Stamp.{Stamp}
use Rattle.handing_on.specs.Handing.{Accepted as Approved, HandedOn}
use Rattle.maker.specs.Making as Making
use Rattle.register.specs.Reads.{ruled}
use Rattle.register.specs.Openings.{Opens}
use Rattle.register.specs.Requests.{Requested}
use Rattle.register.specs.States.{State, Kept, empty_state}
use Rattle.rulings.specs.Attributes.{if_attribute}
use Rattle.scheme.specs.Commands.{Command}
use Rattle.scheme_tape.specs.Reading.{SchemeRead}
use Rattle.script.specs.Calls.{Call, nothing, scheme, list, board, records, filter, «open», request, rule, state, check, make, table, Says, Wanting}
use Rattle.script.specs.Finds.{Finds}
use Rattle.model.specs.Kiosk.{kiosk_counts}
use Rattle.setups.specs.Making.{kiosk_kept, WantsRecords}
use Rattle.setups.specs.Setups.{plain_setup, with_store, with_list, with_filter}
use Rattle.setups.specs.declared.setup.Setup.{Setup}
use Rattle.setups.specs.declared.setup.StoreChoice.{StoreChoice}
use Rattle.setups.specs.declared.setup.StoreChoice.TheVariants.{Board, List as Records}
use Rattle.stores.specs.RecordLists.{if_list}
use Rattle.kiosk.specs.declared.answer.Reply.{Reply}
use Rattle.kiosk.specs.declared.answer.Reply.TheVariants.{Accepted, Listing, StoreChosen, FilterChosen as Filtering, Opened as Open, Done, Ruled, State as Showing, Checked as Passing, Handed, Table as Tabling}
use Rattle.kiosk.specs.declared.answer.Refusal.{Refusal}
use Rattle.kiosk.specs.declared.answer.Refusal.TheVariants.{Fault, Flawed, NoRegister, NoCertificate, BadLine}
use Rattle.kiosk.specs.Checking.{Shows}
use Rattle.kiosk.specs.Desks.{Made, made_of}
use Rattle.kiosk.specs.declared.kept.Session.{Session}

-- What is chosen for the next register; the register of the scheme that was accepted last, if any was; and the certificate that
-- was made or accepted on it last, if any was.
pub record Kiosk : Type 0 where
  pub chosen : Setup
  pub made : Option Made
  pub certificate : Option Certificate

-- a board and no filters are chosen, and no scheme was accepted
abbrev pub fresh : Kiosk
fresh = record { chosen = plain_setup; made = None; certificate = None }

abbrev pub kiosk_of : Session → Kiosk
kiosk_of s = record { chosen = s.chosen; made = made_of s.desk; certificate = option_map certificate_of s.certificate }

-- What is said of a call.
pub data Said : Type 0 where
  -- nothing at all
  silence : Said
  -- the scheme is accepted, with so many commands
  ok : (commands : ℕ) → Said
  fault : (layer number place : ℕ) → Said
  -- the commands one by one, and what was chosen for them
  listing : List Command → Setup → Said
  -- the next register's cells lie there
  store : StoreChoice → Said
  -- the next register filters these rights by that attribute
  filtered : (attribute mask : ℕ) → Said
  -- the register is opened
  opened : Said
  -- the request is done, and so many have been accepted since the opening
  done : (count : ℕ) → Said
  -- the ruling's answer
  ruling : Bool → Said
  -- what the register holds
  holds : State → Said
  -- the certificate is accepted: it holds after every request
  safe : Said
  -- the certificate is refused for this flaw; the entry is that of a name whose stamp is not listed
  flawed : (layer number place : ℕ) → Flaw → (entry : Option Stamp) → Said
  -- a certificate is made, and its tape has these bytes
  handed : (tape : List ℕ) → Said
  -- the certificate that was made or accepted last
  tables : Certificate → Said
  no_register : Said
  no_certificate : Said
  bad_line : Said

-- what is said where there is a register, of it; else that there is none
abbrev pub said_of : (Made → Said) → Option Made → Said
said_of say None = no_register
said_of say (Some m) = say m

-- the listing of the register's scheme, with what was chosen for it
abbrev pub listed : Kiosk → Said
listed k = said_of (λ m. listing m.kept.commands m.setup) k.made

-- what the register holds
abbrev pub shown : Kiosk → Said
shown k = said_of (λ m. holds m.state) k.made

-- the certificate that there is; else that there is none
abbrev pub certificate_said : Option Certificate → Said
certificate_said None = no_certificate
certificate_said (Some c) = tables c

-- the certificate that was made or accepted last on the register
abbrev pub tabled : Kiosk → Said
tabled k = said_of (λ m. certificate_said k.certificate) k.made

-- what the register's ruling answers
abbrev pub ruling_of : Kiosk → (row column right : ℕ) → Said
ruling_of k s o r = said_of (λ m. ruling (ruled m.kept.says m.state.protection s o r)) k.made

-- what a refusal says
abbrev pub refusal_said : Refusal → Said
refusal_said (Fault f) = fault (layer_number f.layer) (reason_number f.reason) f.place
refusal_said (Flawed f flaw entry) = flawed (layer_number f.layer) (reason_number f.reason) f.place flaw entry
refusal_said NoRegister = no_register
refusal_said NoCertificate = no_certificate
refusal_said BadLine = bad_line

-- What an answer says, beside the session in which it is given.
abbrev pub said : Kiosk → Option (Result Reply Refusal) → Said
said k None = silence
said k (Some (Ok (Accepted n))) = ok n
said k (Some (Ok Listing)) = listed k
said k (Some (Ok (StoreChosen choice))) = store choice
said k (Some (Ok (Filtering n m))) = filtered n m
said k (Some (Ok Open)) = opened
said k (Some (Ok (Done n))) = done n
said k (Some (Ok (Ruled allowed))) = ruling allowed
said k (Some (Ok Showing)) = shown k
said k (Some (Ok Passing)) = safe
said k (Some (Ok (Handed tape))) = handed (vec_items tape)
said k (Some (Ok Tabling)) = certificate_said k.certificate
said k (Some (Err refusal)) = refusal_said refusal

-- A call is answered by what there is to say of what it hands out, or by its refusal.
abbrev pub told : {X : Type 0} → (X → Said) → Answers.Answer X → Said
told say (Answers.accepted x) = say x
told say (Answers.refused layer number place) = fault layer number place

-- The register that an accepted scheme makes with what is chosen: it has no entries, empty cells and the count 0.
abbrev pub made_with : Setup → List Command → Made
made_with setup commands = record { kept = kiosk_kept commands setup; state = empty_state; setup = setup }

-- What a reading leaves: the register of an accepted scheme takes the place of the one that was there, and no certificate was made
-- or accepted on it yet; a refused one does not. What is chosen stays.
abbrev pub left : Answers.Answer (List Command) → Kiosk → Kiosk
left (Answers.accepted commands) before = record { chosen = before.chosen; made = Some (made_with before.chosen commands); certificate = None }
left (Answers.refused layer number place) before = before

-- A tape is answered by its reading.
pub record Taken (before : Kiosk) (tape : List ℕ) (answer : Said) (after : Kiosk) : Type 0 where
  pub reading : Answers.Answer (List Command)
  pub read : SchemeRead kiosk_counts tape reading
  pub tells : answer ≡ told (λ commands. ok (length commands)) reading
  pub leaves : after ≡ left reading before

-- The tape is that of a scheme which is accepted, and a list is chosen for its register.
pub record WantsList (before : Kiosk) (tape : List ℕ) : Type 0 where
  pub commands : List Command
  pub read : SchemeRead kiosk_counts tape (Answers.accepted commands)
  pub list_chosen : WantsRecords before.chosen.store

-- the same session with another setup chosen for the next register
abbrev pub choosing : Kiosk → Setup → Kiosk
choosing k setup = record { chosen = setup; made = k.made; certificate = k.certificate }

-- A board can always be chosen.
abbrev pub BoardChosen : Kiosk → Said → Kiosk → Type 0
BoardChosen before answer after = (answer ≡ store Board) × (after ≡ choosing before (with_store before.chosen Board))

-- A list of 1 to 4,096 records is chosen; another is refused, and nothing changes.
abbrev pub ListChosen : Kiosk → (records : ℕ) → Said → Kiosk → Type 0
ListChosen before n answer after =
    (answer ≡ told store (if_list n (Records n))) × (after ≡ choosing before (with_list before.chosen n))

-- A filter by attribute 0 to 3 is chosen; another is refused, and nothing changes.
abbrev pub FilterChosen : Kiosk → (attribute mask : ℕ) → Said → Kiosk → Type 0
FilterChosen before k m answer after =
    (answer ≡ told (filtered k) (if_attribute k m)) × (after ≡ choosing before (with_filter before.chosen k m))

-- the same register in another state
abbrev pub in_state : Made → State → Made
in_state m s = record { kept = m.kept; state = s; setup = m.setup }

-- The register carries a call out: its answer is told, and the state that it leaves is the register's. All else stays.
pub record Carried {X : Type 0} (does : Kept → State → Answers.Answer X → State → Type 0) (say : X → Said) (before : Kiosk) (m : Made) (answer : Said) (after : Kiosk) : Type 0 where
  pub carried : Answers.Answer X
  pub leaves : State
  pub call : does m.kept m.state carried leaves
  pub tells : answer ≡ told say carried
  pub stays : after ≡ record { chosen = before.chosen; made = Some (in_state m leaves); certificate = before.certificate }

-- What is so of a call on the register, if there is one; else that there is none is the answer, and nothing changes.
abbrev pub OnRegister : (Made → Said → Kiosk → Type 0) → Kiosk → Option Made → Said → Kiosk → Type 0
OnRegister says before None answer after = (answer ≡ no_register) × (after ≡ before)
OnRegister says before (Some m) answer after = says m answer after

-- The register carries the call out, if there is one.
abbrev pub Carries : {X : Type 0} → (does : Kept → State → Answers.Answer X → State → Type 0) → (say : X → Said) → Kiosk → Option Made → Said → Kiosk → Type 0
Carries does say before made answer after = OnRegister (Carried does say before) before made answer after

abbrev pub Opened : Kiosk → (tape : List ℕ) → Said → Kiosk → Type 0
Opened before tape answer after = Carries (λ kept old. Opens kept tape) (λ tt. opened) before before.made answer after

abbrev pub Asked : Kiosk → (command : ℕ) → (names : List ℕ) → Said → Kiosk → Type 0
Asked before c names answer after = Carries (λ kept old. Requested kept old c names) done before before.made answer after

-- the same session, but that this certificate was made or accepted last
abbrev pub keeping : Kiosk → Certificate → Kiosk
keeping k c = record { chosen = k.chosen; made = k.made; certificate = Some c }

-- What a check on a register is answered: that the certificate is accepted, and then it is kept; or the refusal, with a witness.
pub data CheckedOn (before : Kiosk) (m : Made) (certificate bans : List ℕ) (answer : Said) (after : Kiosk) : Type 0 where
  passed : (c : Certificate) → Approved m.kept m.state certificate bans c → answer ≡ safe → after ≡ keeping before c → CheckedOn before m certificate bans answer after
  failed : (f : Faulty) (refusal : Refusal) → Checked m.kept m.state certificate bans (Answers.refusal f) → Shows m.kept m.state certificate bans f refusal → answer ≡ refusal_said refusal → after ≡ before → CheckedOn before m certificate bans answer after

-- What a making on a register is answered, in a buffer of zeros: the tape that is made, and then its certificate is kept; or the
-- refusal.
pub data MadeOn (before : Kiosk) (m : Made) (size : ℕ) (bans : List ℕ) (answer : Said) (after : Kiosk) : Type 0 where
  given : (tape : List ℕ) (c : Certificate) → HandedOn m.kept m.state bans (replicate size 0) tape c → answer ≡ handed tape → after ≡ keeping before c → MadeOn before m size bans answer after
  denied : (f : Faulty) → Making.Made m.kept m.state bans (replicate size 0) (Answers.refusal f) (replicate size 0) → answer ≡ refusal_said (Fault f) → after ≡ before → MadeOn before m size bans answer after

-- what is so of a check, by the register that there is or is not
abbrev pub Checks : Kiosk → (certificate bans : List ℕ) → Said → Kiosk → Type 0
Checks before certificate bans answer after = OnRegister (λ m. CheckedOn before m certificate bans) before before.made answer after

-- and of a making
abbrev pub Makes : Kiosk → (size : ℕ) → (bans : List ℕ) → Said → Kiosk → Type 0
Makes before size bans answer after = OnRegister (λ m. MadeOn before m size bans) before before.made answer after

-- A buffer is wanted where there is a register.
abbrev pub WantsBuffer : Option Made → Type 0
WantsBuffer None = ⊥
WantsBuffer (Some m) = ⊤

-- What each call is answered. No call is what an unreadable line has.
abbrev pub Answered : Kiosk → Option Call → Said → Kiosk → Type 0
Answered before None answer after = (answer ≡ bad_line) × (after ≡ before)
Answered before (Some nothing) answer after = (answer ≡ silence) × (after ≡ before)
Answered before (Some list) answer after = (answer ≡ listed before) × (after ≡ before)
Answered before (Some (scheme tape)) answer after = Taken before tape answer after
Answered before (Some board) answer after = BoardChosen before answer after
Answered before (Some (records n)) answer after = ListChosen before n answer after
Answered before (Some (filter k m)) answer after = FilterChosen before k m answer after
Answered before (Some («open» tape)) answer after = Opened before tape answer after
Answered before (Some (request c names)) answer after = Asked before c names answer after
Answered before (Some (rule s o r)) answer after = (answer ≡ ruling_of before s o r) × (after ≡ before)
Answered before (Some state) answer after = (answer ≡ shown before) × (after ≡ before)
Answered before (Some (check certificate bans)) answer after = Checks before certificate bans answer after
Answered before (Some (make size bans)) answer after = Makes before size bans answer after
Answered before (Some table) answer after = (answer ≡ tabled before) × (after ≡ before)

-- A line is answered as the call that it says, if it says one.
pub record LineAnswered (before : Kiosk) (line : List ℕ) (answer : Said) (after : Kiosk) : Type 0 where
  pub call : Option Call
  pub says : Finds (Says line) call
  pub answered : Answered before call answer after

-- Memory is wanted for what a call says: for the records of a list, or for the buffer of a making.
abbrev pub CallWants : Kiosk → Call → Type 0
CallWants before nothing = ⊥
CallWants before list = ⊥
CallWants before (scheme tape) = WantsList before tape
CallWants before board = ⊥
CallWants before (records n) = ⊥
CallWants before (filter k m) = ⊥
CallWants before («open» tape) = ⊥
CallWants before (request c names) = ⊥
CallWants before (rule s o r) = ⊥
CallWants before state = ⊥
CallWants before (check certificate bans) = ⊥
CallWants before (make size bans) = WantsBuffer before.made
CallWants before table = ⊥

-- Memory is wanted for a line: for the bytes that it writes, or for the call that it says.
pub data LineWants (before : Kiosk) (line : List ℕ) : Type 0 where
  to_read : Wanting line → LineWants before line
  to_answer : {call : Call} → Says line call → CallWants before call → LineWants before line
