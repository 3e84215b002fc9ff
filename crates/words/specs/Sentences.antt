-- Why a call is refused: layer, number and place, and for people the rule as a sentence.
use Rattle.std.specs.Prelude.{ℕ, List, ◌++◌, codes, decimal}
use Rattle.model.specs.Faults.{layer_number, reason_number}
use Rattle.model.specs.declared.fault.Fault.{Fault}
use Rattle.model.specs.declared.fault.Reason.{Reason}
use Rattle.model.specs.declared.fault.Reason.TheVariants.{TapeTooLong, NoOrder, OutOfPlace, TooMany, OutOfRange, ParameterRule, UnfitReference, OpeningTooLarge, NoSuchCommand, WrongNumberOfNames, NoSuchName, RepeatedName, WrongPresence, NotASubject, TestFails, StoreTooSmall, NotContained, NotClosed, BanMet, BufferTooSmall, NoCertificate, BoardSize, ListSize, NoSuchAttribute}

abbrev pub reason_words : Reason → List ℕ
reason_words TapeTooLong = codes "the tape is longer than 65535 bytes"
reason_words NoOrder = codes "no order of this tape stands here, or its operands are cut off"
reason_words OutOfPlace = codes "the order stands out of its place, or the tape ends inside a command"
reason_words TooMany = codes "one more than there may be"
reason_words OutOfRange = codes "an operand is out of its range"
reason_words ParameterRule = codes "a rule on rows, or on created or destroyed parameters, is broken"
reason_words UnfitReference = codes "the name or stamp is there already, or one that is needed is missing or is no card"
reason_words OpeningTooLarge = codes "the opening passes the store's limit"
reason_words NoSuchCommand = codes "there is no such command"
reason_words WrongNumberOfNames = codes "the command takes another number of names"
reason_words NoSuchName = codes "a name is over 63"
reason_words RepeatedName = codes "a name is given twice"
reason_words WrongPresence = codes "a name to be created stands already, or another does not stand"
reason_words NotASubject = codes "a declared card is a thing"
reason_words TestFails = codes "a test fails"
reason_words StoreTooSmall = codes "the store's limit would be passed"
reason_words NotContained = codes "the register is not contained"
reason_words NotClosed = codes "a command is not closed"
reason_words BanMet = codes "a ban is met"
reason_words BufferTooSmall = codes "the buffer is under 5312 bytes"
reason_words NoCertificate = codes "no certificate would be accepted"
reason_words BoardSize = codes "a board's memory is not 4096 masks"
reason_words ListSize = codes "a list's memory is not 1 to 4096 records"
reason_words NoSuchAttribute = codes "there is no such attribute"

-- the numbers come first, so that a program can read them; what follows ` -- ` is for people
abbrev pub fault_words : Fault → List ℕ
fault_words f =
    codes "fault "
    ++ (decimal (layer_number f.layer)
    ++ (codes " "
    ++ (decimal (reason_number f.reason)
    ++ (codes " " ++ (decimal f.place ++ (codes " -- " ++ reason_words f.reason))))))
