-- The codes of the worked small kiosk, from the bytes of all four tapes.
use Rattle.std.specs.Prelude.{◌≡◌, ℕ, ◌+◌, ◌*◌, ◌^◌, List, ◌↔◌}
use Rattle.opening.specs.Worked.{kiosk_tape}
use Rattle.certificates.specs.Worked.{certificate_tape, right_1_tape, right_0_tape}
use Rattle.register.specs.Worked.{kiosk_scheme}
use Rattle.checker.specs.Worked.{regrade_scheme}
use Rattle.kiosk_c.specs.Codes.{Coded}

-- A scheme, the kiosk's opening and its certificate, and a ban tape have this code, and no other.
abbrev pub HasCode : (scheme bans : List ℕ) → (expected : ℕ) → Type 0
HasCode scheme bans expected = (code : ℕ) → Coded scheme kiosk_tape certificate_tape bans code ↔ (code ≡ expected)

-- What the host is answered of a kiosk, ban by ban.
pub record WorkedCodes : Type 0 where
  -- no card of grade 1 holds right 1 on an entry of grade 1
  pub kept : HasCode kiosk_scheme right_1_tape 0
  -- but it may hold right 0 on an entry of no grade
  pub met : HasCode kiosk_scheme right_0_tape (6 * 2 ^ 24 + 19 * 2 ^ 16)
  -- where any card may become one of grade 1, the certificate is not closed
  pub escaped : HasCode regrade_scheme right_1_tape (6 * 2 ^ 24 + 18 * 2 ^ 16)
