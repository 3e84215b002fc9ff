-- The codes of the worked small kiosk: its tapes are read, its opening is accepted, and its checks are worked.
use Rattle.std.proofs.Common.{◌≡◌, ℕ, List, [], ◌∷◌, refl, sym, ◌∙◌, arith}
use Rattle.model.specs.Answers.{Answer, accepted, refused}
use Rattle.scheme.specs.Commands.{Command}
use Rattle.opening.proofs.Worked.{small_kiosk as worked_opening}
use Rattle.opening.specs.Worked.{kiosk_tape, kiosk_items}
use Rattle.certificates.specs.Worked.{certificate_tape, right_1_tape, right_0_tape, right_1_ban}
use Rattle.certificates.proofs.Worked.{small_kiosk_bans}
use Rattle.register.specs.Openings.{Opens}
use Rattle.register.specs.Worked.{kiosk_scheme, kiosk_commands, kiosk_opened, KioskOnBoard}
use Rattle.register.proofs.Worked.{worked_kiosk}
use Rattle.checker.specs.Worked.{regrade_scheme, regrade, RegradeKiosk}
use Rattle.checker.proofs.Worked.{regrade_read, worked_checks}
use Rattle.kiosk_c.specs.Codes.{on_board, Handed, on_register, checked, code_of, Readable}
use Rattle.kiosk_c.specs.Worked.{HasCode, WorkedCodes}
use Rattle.kiosk_c.proofs.OneCode.{one_code}

-- one answer to the tapes decides their code
has_code : (scheme bans : List ℕ) (answer : Answer (Unit {0})) (expected : ℕ) → Readable answer → code_of answer ≡ expected → Handed scheme kiosk_tape certificate_tape bans answer → HasCode scheme bans expected
has_code scheme bans answer expected readable coded handed code = (
  λ is. one_code scheme kiosk_tape certificate_tape bans code expected is (record { answer = answer; handed = handed; coded = sym coded; readable = readable }),
  λ same. record { answer = answer; handed = handed; coded = same ∙ sym coded; readable = readable },
)

-- the kiosk's opening is accepted, whatever the commands are
opened : (commands : List Command) → Opens (on_board commands) kiosk_tape (accepted tt) kiosk_opened
opened commands = record {
  opened = record {
    reading = accepted kiosk_items;
    read = (worked_opening.opens 4096 (omega arith) (accepted kiosk_items)).1 refl;
    answered = refl;
    stands = sym worked_opening.state;
  };
  begun = refl;
}

on_kiosk : KioskOnBoard (on_board kiosk_commands)
on_kiosk = record { counts = refl; covers = refl; scheme = (worked_kiosk.scheme (accepted kiosk_commands)).1 refl; board = refl }

kept : Handed kiosk_scheme kiosk_tape certificate_tape right_1_tape (accepted tt)
kept =
    on_register kiosk_commands on_kiosk.scheme
    (checked kiosk_opened (opened kiosk_commands) ((worked_checks.kept (on_board kiosk_commands) on_kiosk (accepted tt)).1 refl))

met : Handed kiosk_scheme kiosk_tape certificate_tape right_0_tape (refused 6 19 0)
met =
    on_register kiosk_commands on_kiosk.scheme
    (checked kiosk_opened (opened kiosk_commands) ((worked_checks.met (on_board kiosk_commands) on_kiosk (refused 6 19 0)).1 refl))

on_regrade : RegradeKiosk (on_board (regrade ∷ []))
on_regrade = record { counts = refl; scheme = regrade_read }

escaped : Handed regrade_scheme kiosk_tape certificate_tape right_1_tape (refused 6 18 0)
escaped =
    on_register (regrade ∷ []) regrade_read
    (checked kiosk_opened (opened (regrade ∷ []))
    ((worked_checks.escaped (on_board (regrade ∷ [])) on_regrade right_1_tape (right_1_ban ∷ []) ((small_kiosk_bans.right_1 (accepted (right_1_ban ∷ []))).1 refl) (refused 6 18 0)).1 refl))

pub worked_codes : WorkedCodes
worked_codes = record {
  kept = has_code kiosk_scheme right_1_tape (accepted tt) 0 tt refl kept;
  met = has_code kiosk_scheme right_0_tape (refused 6 19 0) _ (omega arith, omega arith, omega arith, omega arith) refl met;
  escaped = has_code regrade_scheme right_1_tape (refused 6 18 0) _ (omega arith, omega arith, omega arith, omega arith) refl escaped;
}
