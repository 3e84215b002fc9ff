-- The answer is read back from its code.
use Rattle.std.proofs.Common.{◌≡◌, ◌<◌, arith, refl}
use Rattle.model.specs.declared.fault.Layer.{Layer}
use Rattle.model.specs.declared.fault.Layer.TheVariants.{Scheme, Opening, Certificate, Bans, Register, Checker, Parts}
use Rattle.model.specs.Answers.{accepted, refused}
use Rattle.model.specs.Faults.{layer_number}
use Rattle.kiosk_c.specs.Codes.{ReadBack}

-- no layer has the number 0
pub has_layer : (layer : Layer) → 0 < layer_number layer
has_layer Scheme = omega arith
has_layer Opening = omega arith
has_layer Certificate = omega arith
has_layer Bans = omega arith
has_layer Register = omega arith
has_layer Checker = omega arith
has_layer Parts = omega arith

pub read_back : ReadBack
read_back (accepted x) (accepted y) first second same = refl
read_back (accepted x) (refused l n p) first second same = absurd (omega (arith, second.0, same))
read_back (refused l n p) (accepted y) first second same = absurd (omega (arith, first.0, same))
read_back (refused l n p) (refused l' n' p') first second same =
    let layer : l ≡ l' = omega (arith, first.2, first.3, second.2, second.3, same) in
    let number : n ≡ n' = omega (arith, first.3, second.3, same, layer) in
    let place : p ≡ p' = omega (arith, same, layer, number) in
    λ i. refused (layer i) (number i) (place i)
