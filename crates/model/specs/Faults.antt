-- Layers and reasons of refusals by their numbers.
use Rattle.std.specs.Prelude.{ℕ}
use Rattle.model.specs.declared.fault.Layer.{Layer}
use Rattle.model.specs.declared.fault.Layer.TheVariants.{Scheme, Opening, Certificate, Bans, Register, Checker, Parts}
use Rattle.model.specs.declared.fault.Reason.{Reason}
use Rattle.model.specs.declared.fault.Reason.TheVariants.{TapeTooLong, NoOrder, OutOfPlace, TooMany, OutOfRange, ParameterRule, UnfitReference, OpeningTooLarge, NoSuchCommand, WrongNumberOfNames, NoSuchName, RepeatedName, WrongPresence, NotASubject, TestFails, StoreTooSmall, NotContained, NotClosed, BanMet, BufferTooSmall, NoCertificate, BoardSize, ListSize, NoSuchAttribute}

abbrev pub layer_number : Layer → ℕ
layer_number Scheme = 1
layer_number Opening = 2
layer_number Certificate = 3
layer_number Bans = 4
layer_number Register = 5
layer_number Checker = 6
layer_number Parts = 7

abbrev pub reason_number : Reason → ℕ
reason_number TapeTooLong = 1
reason_number NoOrder = 2
reason_number OutOfPlace = 3
reason_number TooMany = 4
reason_number OutOfRange = 5
reason_number ParameterRule = 6
reason_number UnfitReference = 7
reason_number OpeningTooLarge = 8
reason_number NoSuchCommand = 9
reason_number WrongNumberOfNames = 10
reason_number NoSuchName = 11
reason_number RepeatedName = 12
reason_number WrongPresence = 13
reason_number NotASubject = 14
reason_number TestFails = 15
reason_number StoreTooSmall = 16
reason_number NotContained = 17
reason_number NotClosed = 18
reason_number BanMet = 19
reason_number BufferTooSmall = 20
reason_number NoCertificate = 21
reason_number BoardSize = 22
reason_number ListSize = 23
reason_number NoSuchAttribute = 24
