-- The library says what two hex digits of a byte are; a mask is its two bytes.
use Rattle.std.proofs.Common.{◌≡◌, ◌/◌, ◌%◌, subst, arith, true, Some}
use Rattle.std.proofs.lemmas.Fmt.{hex_byte}
use Rattle.std.specs.Fmt.{DisplaysOnOk, styled_digits_output, ◌++?◌}
use Rattle.words.specs.Masks.{mask_words}
use Rattle.words.proofs.mask.MaskDigitsDisplay.fmt.Goals as goal

pub returns-clause-writes : goal.returns-clause-writes
returns-clause-writes g c =
    let m = c.args.self.now.0 in
    let first : m / 256 % 256 / 16 ≡ m / 4096 % 16 = omega arith in
    let second : m / 256 % 256 % 16 ≡ m / 256 % 16 = omega arith in
    let third : m % 256 / 16 ≡ m / 16 % 16 = omega arith in
    let last : m % 256 % 16 ≡ m % 16 = omega arith in
    let text : styled_digits_output c.in_radix.result c.laid_out.result ++? styled_digits_output c.in_radix-2.result c.laid_out-2.result ≡ Some (mask_words m) =
    rw (c.laid_out.ensures, c.laid_out-2.ensures, c.in_radix.ensures, c.in_radix-2.ensures, c.to_be_bytes.ensures, hex_byte true (m / 256 % 256) (omega arith), hex_byte true (m % 256) (omega arith), first, second, third, last) in
    subst (λ t. DisplaysOnOk g.W.Write.write_str_gives c.args.f.now c.write.result t c.write.new.self) text c.write.ensures.writes
