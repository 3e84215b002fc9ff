-- The line says the call that is answered.
use Rattle.kiosk.specs.Sessions.{kiosk_of, said}
use Rattle.kiosk.proofs.Answering.{line_answered}
use Rattle.kiosk.proofs.kept.Session.answer_line.Goals as goal

pub returns-in-Ok : goal.returns-in-Ok
returns-in-Ok c = line_answered _ (λ answer. said (kiosk_of c.answer.new.self) answer) (λ answer. kiosk_of c.answer.new.self) _ c.in-Ok.ensures.said _ c.answer.ensures
