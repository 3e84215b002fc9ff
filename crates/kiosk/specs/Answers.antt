-- What is printed for an answer.
use Rattle.std.specs.Prelude.{ℕ, true, false, List, ◌++◌, Some, None, codes, decimal, Option, vec_items}
use Rattle.certificates.specs.Certificates.{Certificate}
use Rattle.flaw_words.specs.Words.{flaw_words}
use Rattle.table_words.specs.Tables.{table_words}
use Rattle.table_words.specs.Tapes.{tape_words}
use Rattle.words.specs.Listings.{listings_words}
use Rattle.words.specs.Masks.{mask_words}
use Rattle.words.specs.Sentences.{fault_words}
use Rattle.setups.specs.Setups.{store_words, setup_lines}
use Rattle.kiosk.specs.declared.answer.Reply.{Reply}
use Rattle.kiosk.specs.declared.answer.Reply.TheVariants.{Accepted, Listing, StoreChosen, FilterChosen, Opened, Done, Ruled, State, Checked, Handed, Table}
use Rattle.kiosk.specs.declared.answer.Refusal.{Refusal}
use Rattle.kiosk.specs.declared.answer.Refusal.TheVariants.{Fault, Flawed, NoRegister, NoCertificate, BadLine}
use Rattle.kiosk.specs.Sessions.{Kiosk}
use Rattle.kiosk.specs.Desks.{Made}
use Rattle.kiosk.specs.States.{state_words}

abbrev pub refusal_words : Refusal → List ℕ
refusal_words (Fault f) = fault_words f
refusal_words (Flawed f flaw entry) = fault_words f ++ (codes ": " ++ flaw_words flaw entry)
refusal_words NoRegister = codes "error no register"
refusal_words NoCertificate = codes "error no certificate"
refusal_words BadLine = codes "error bad line"

-- the words for the register that there is; else that there is none
abbrev pub words_of : (Made → List ℕ) → Option Made → List ℕ
words_of say None = refusal_words NoRegister
words_of say (Some m) = say m

-- the commands, and then what was chosen for them, as a script says it; at last `end`
abbrev pub list_words : Made → List ℕ
list_words m = listings_words m.kept.commands ++ (setup_lines m.setup ++ codes "end")

-- the table of the certificate that there is; else that there is none
abbrev pub certificate_words : Option Certificate → List ℕ
certificate_words None = refusal_words NoCertificate
certificate_words (Some c) = table_words c

abbrev pub reply_words : Kiosk → Reply → List ℕ
reply_words k (Accepted n) = codes "ok -- the scheme is accepted; commands: " ++ decimal n
reply_words k Listing = words_of list_words k.made
reply_words k (StoreChosen choice) = codes "ok -- the next register keeps its cells " ++ store_words choice
reply_words k (FilterChosen n m) = codes "ok -- the next register filters by attribute " ++ (decimal n ++ (codes "; rights: " ++ mask_words m))
reply_words k Opened = codes "ok -- the register is open"
reply_words k (Done n) = codes "ok " ++ decimal n
reply_words k (Ruled true) = codes "ok yes"
reply_words k (Ruled false) = codes "ok no"
reply_words k State = words_of (λ m. state_words m.state) k.made
reply_words k Checked = codes "ok -- the certificate is accepted: it holds after every request"
reply_words k (Handed tape) = codes "ok " ++ tape_words (vec_items tape)
reply_words k Table = certificate_words k.certificate
