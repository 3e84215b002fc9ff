use Rattle.std.proofs.Common.{◌≡◌, List, ℕ, Result, sym, subst}
use Rattle.script.specs.declared.keyword.Keyword.{Keyword}
use Rattle.script.specs.declared.line.Call.{Call as Answered}
use Rattle.script.specs.declared.error.ReadError.{ReadError}
use Rattle.script.specs.Words.{Blanks}
use Rattle.script.specs.Reads.{Reads}
use Rattle.script.specs.Calls.{Call, list, state, table, Asks, asks_scheme, asks_list, asks_open, asks_state, asks_table, Wants, asked_call}
use Rattle.script.proofs.Refusing.{reads_like}
use Rattle.script.proofs.Saying.{asked}
use Rattle.script.proofs.line.read_call.Goals as goal

-- a keyword that asks for one call, and takes no words
lone : {key : Keyword} {rest : List ℕ} (call : Call) (r : Result Answered ReadError) → (Blanks rest → Asks key rest call) → ((c : Call) → Asks key rest c → Blanks rest × (c ≡ call)) → Reads asked_call (λ c. Blanks rest × (c ≡ call)) ⊥ r → Reads asked_call (Asks key rest) (Wants key rest) r
lone {key} {rest} call r asks alone reads =
    reads_like _ _ _ r reads (λ c x. subst (Asks key rest) (sym x.1) (asks x.0)) alone (λ none. absurd none)

pub returns-in_ok-read_hex-in-Scheme : goal.returns-in_ok-read_hex-in-Scheme
returns-in_ok-read_hex-in-Scheme c = rw c.in-Scheme.is (asks_scheme c.in_ok-read_hex-in-Scheme.ensures.read)

pub returns-in-List : goal.returns-in-List
returns-in-List c = rw c.in-List.is (lone list c.lone_call.result (asks_list _) (λ call a. asked a) c.lone_call.ensures)

pub returns-in_ok-read_hex-in-Open : goal.returns-in_ok-read_hex-in-Open
returns-in_ok-read_hex-in-Open c = rw c.in-Open.is (asks_open c.in_ok-read_hex-in-Open.ensures.read)

pub returns-in-State : goal.returns-in-State
returns-in-State c = rw c.in-State.is (lone state c.lone_call-in-State.result (asks_state _) (λ call a. asked a) c.lone_call-in-State.ensures)

pub returns-in-Table : goal.returns-in-Table
returns-in-Table c = rw c.in-Table.is (lone table c.lone_call-in-Table.result (asks_table _) (λ call a. asked a) c.lone_call-in-Table.ensures)
