-- The library says what two hex digits of a byte are.
use Rattle.std.proofs.Common.{◌≡◌, ◌/◌, ◌%◌, ◌<◌, subst, arith, true, Some}
use Rattle.std.proofs.lemmas.Fmt.{hex_byte}
use Rattle.std.specs.Fmt.{DisplaysOnOk, styled_digits_output}
use Rattle.table_words.specs.Tapes.{byte_words}
use Rattle.table_words.proofs.tape.ByteWordsDisplay.fmt.Goals as goal

pub returns-clause-writes : goal.returns-clause-writes
returns-clause-writes g c =
    let b = c.args.self.now.0 in
    let small : b < 256 = omega arith in
    let high : b / 16 % 16 ≡ b / 16 = omega arith in
    let text : styled_digits_output c.in_radix.result c.laid_out.result ≡ Some (byte_words b) =
    rw (c.laid_out.ensures, c.in_radix.ensures, hex_byte true b small, high) in
    subst (λ t. DisplaysOnOk g.W.Write.write_str_gives c.args.f.now c.write.result t c.write.new.self) text c.write.ensures.writes
