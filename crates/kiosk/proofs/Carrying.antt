-- A register carries a call out.
use Rattle.std.proofs.Common.{◌≡◌, ap, subst, sym, Some, Option, Result, Ok, Err}
use Rattle.std.specs.Result.{IsErrAnd}
use Rattle.model.specs.Answers.{Answer, refusal}
use Rattle.model.specs.declared.fault.Fault.{Fault}
use Rattle.register.specs.States.{State, Kept}
use Rattle.kiosk.specs.declared.answer.Reply.{Reply}
use Rattle.kiosk.specs.declared.answer.Refusal.{Refusal}
use Rattle.kiosk.specs.declared.answer.Refusal.TheVariants.{Fault as Faulty}
use Rattle.kiosk.specs.Desks.{Made}
use Rattle.kiosk.specs.Sessions.{Kiosk, Said, said, told, Carried, Carries, OnRegister}

-- what is so of the register that there is
pub on_register : (says : Made → Said → Kiosk → Type 0) (before : Kiosk) {after : Kiosk} {made : Option Made} {m : Made} {answer : Said} → made ≡ Some m → says m answer after → OnRegister says before made answer after
on_register says before {after} {answer = answer} there is =
    subst (λ (x : Option Made). OnRegister says before x answer after) (sym there) is

module _ {X : Type 0} (does : Kept → State → Answer X → State → Type 0) (say : X → Said) where
  -- Where there is a register, and the call leaves it in a state and all else as it was, the call is carried out.
  pub carries : (before : Kiosk) (made : Option Made) (m : Made) (kept : Kept) (a : Answer X) (leaves : State) (answer : Said) → made ≡ Some m → kept ≡ m.kept → does m.kept m.state a leaves → answer ≡ told say a → Carries does say before made answer (record { chosen = before.chosen; made = Some (record { kept = kept; state = leaves; setup = m.setup }); certificate = before.certificate })
  carries before made m kept a leaves answer there same call tells =
      on_register (Carried does say before) before there
      (record { carried = a; leaves = leaves; call = call; tells = tells; stays = ap (λ (k : Kept). record { chosen = before.chosen; made = Some (record { kept = k; state = leaves; setup = m.setup }); certificate = before.certificate }) same })

-- a refusal is told by its fault
pub fault_told : {X : Type 0} (say : X → Said) (k : Kiosk) (r : Result Reply Refusal) (f : Fault) → IsErrAnd r (λ e. e ≡ Faulty f) → said k (Some r) ≡ told say (refusal f)
fault_told say k (Ok reply) f bad = absurd bad
fault_told say k (Err e) f is = ap (λ (x : Refusal). said k (Some (Err x))) is
