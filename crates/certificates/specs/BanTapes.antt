-- What it is to read a ban tape. Its items are the bans themselves.
use Rattle.std.specs.Prelude.{ℕ, Bool, not, ◌&&◌, List, [], ◌∷◌, length, Option, nat_le, nat_lt}
use Rattle.model.specs.declared.counts.Counts.{Counts}
use Rattle.model.specs.Answers.{Answer, lowest}
use Rattle.model.specs.Counts.{is_null_or_value}
use Rattle.tapes.specs.declared.tape.Tape.TheVariants.{Bans as BanTape}
use Rattle.tapes.specs.Answering.{TapeRead, AcceptedAsEncoded, OneAnswer}
use Rattle.tapes.specs.Grammars.{Grammar}
use Rattle.tapes.specs.ItemTapes.{items_grammar, EncodesItems}
use Rattle.tapes.specs.Orders.{Case, spelt}
use Rattle.tapes.specs.Values.{value_on_tape}
use Rattle.certificates.specs.declared.ban.Ban.{Ban}

-- 60 bans a right from a card whose attribute is of a value to an entry whose attribute is of a value
abbrev pub ban_case : Ban → Case
ban_case b = record { number = 0x60; values = b.right ∷ b.row.attribute ∷ value_on_tape b.row.value ∷ b.column.attribute ∷ value_on_tape b.column.value ∷ [] }

abbrev pub ban_code : Ban → List ℕ
ban_code b = spelt (ban_case b)

-- The rules by their numbers, each with whether it is broken: 4 a 17th ban, 5 out of range.
abbrev pub ban_rules : Counts → (before : List Ban) → Ban → List (ℕ × Bool)
ban_rules c before b =
    (4, nat_le 16 (length before))
    ∷ (5, not (nat_lt b.right 16 && (is_null_or_value c b.row.attribute b.row.value && is_null_or_value c b.column.attribute b.column.value)))
    ∷ []

abbrev pub ban_broken_after : Counts → (before : List Ban) → Ban → Option ℕ
ban_broken_after c before b = lowest (ban_rules c before b)

abbrev pub ban_grammar : Counts → Grammar Ban (List Ban)
ban_grammar c = items_grammar ban_code (ban_broken_after c)

-- the tape is the encoding of these bans, and they are well-formed
abbrev pub EncodesBans : Counts → List ℕ → List Ban → Type 0
EncodesBans c = EncodesItems ban_code (ban_broken_after c)

-- Accepted: the tape encodes these bans. Refused, in layer 4: for its length, or at the first order that breaks a rule, by the
-- lowest rule that is broken there.
abbrev pub BansRead : Counts → List ℕ → Answer (List Ban) → Type 0
BansRead c = TapeRead BanTape (ban_grammar c) (EncodesBans c)

abbrev pub BansAcceptedExactly : Counts → List ℕ → Answer (List Ban) → Type 0
BansAcceptedExactly c = AcceptedAsEncoded (EncodesBans c)

abbrev pub OneBansReading : Counts → Type 0
OneBansReading c = OneAnswer BanTape (ban_grammar c) (EncodesBans c)
