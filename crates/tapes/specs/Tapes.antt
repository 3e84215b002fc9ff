-- The tapes and the layers of their faults.
use Rattle.std.specs.Prelude.{ℕ, Bool, ◌==◌}
use Rattle.model.specs.declared.fault.Layer.{Layer}
use Rattle.model.specs.declared.fault.Layer.TheVariants.{Scheme as SchemeLayer, Opening as OpeningLayer, Certificate as CertificateLayer, Bans as BansLayer}
use Rattle.tapes.specs.declared.tape.Tape.{Tape}
use Rattle.tapes.specs.declared.tape.Tape.TheVariants.{Scheme, Opening, Certificate, Bans}

abbrev pub layer_of : Tape → Layer
layer_of Scheme = SchemeLayer
layer_of Opening = OpeningLayer
layer_of Certificate = CertificateLayer
layer_of Bans = BansLayer

-- the place of a tape among the four
abbrev pub place_of : Tape → ℕ
place_of Scheme = 0
place_of Opening = 1
place_of Certificate = 2
place_of Bans = 3

abbrev pub same_tape : Tape → Tape → Bool
same_tape a b = place_of a == place_of b
