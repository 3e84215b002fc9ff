-- How a line is answered.
use Rattle.std.proofs.Common.{ℕ, List, Some, Result, Ok, Err, MatchResult}
use Rattle.script.specs.Calls.{Call, Says}
use Rattle.kiosk.specs.Sessions.{Kiosk, Said, Answered, CallWants, LineAnswered, LineWants, to_answer}

-- a line that says a call is answered as the call, and wants the memory that the call does, with what else is so then
pub line_answered : {X E : Type 0} {line : List ℕ} {call : Call} (before : Kiosk) (answer : X → Said) (after : X → Kiosk) (Kept : Type 0) → Says line call → (r : Result X E) → MatchResult r (λ x. Answered before (Some call) (answer x) (after x)) (λ e. (CallWants before call) × Kept) → MatchResult r (λ x. LineAnswered before line (answer x) (after x)) (λ e. (LineWants before line) × Kept)
line_answered {call = call} before answer after kept says (Ok x) answered = record { call = Some call; says = says; answered = answered }
line_answered {call = call} before answer after kept says (Err e) wants = (to_answer says wants.0, wants.1)
