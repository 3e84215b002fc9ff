use Rattle.std.proofs.Common.{sym, arith, rules}
use Rattle.script.proofs.Finding.{finds_none}
use Rattle.script.proofs.Masking.{bytes_of, mask_of}
use Rattle.script.proofs.hex.read_mask.Goals as goal

pub returns-in_err-byte : goal.returns-in_err-byte
returns-in_err-byte c =
    finds_none _ _ c.from_residual.ensures
    (λ mask m. let some = (bytes_of m).high_is in let none = c.in_err-byte.ensures in grind arith)

pub returns-in_err-byte-2 : goal.returns-in_err-byte-2
returns-in_err-byte-2 c =
    finds_none _ _ c.from_residual-in_err-byte-2.ensures
    (λ mask m. let some = (bytes_of m).low_is in let none = c.in_err-byte-2.ensures in grind arith)

pub returns : goal.returns
returns c =
    mask_of _ _
    record {
      high = c.in_ok-byte.field-0;
      low = c.in_ok-byte-2.field-0;
      long = search rules;
      high_is = sym c.in_ok-byte.ensures;
      low_is = sym c.in_ok-byte-2.ensures;
      whole = omega (arith, c.from_be_bytes.ensures);
    }
