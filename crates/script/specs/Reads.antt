-- What a reader answers that can run out of memory.
use Rattle.std.specs.Prelude.{Result, Ok, Err, ⊤}
use Rattle.script.specs.declared.error.ReadError.{ReadError}
use Rattle.script.specs.declared.error.ReadError.TheVariants.{OutOfMemory, Unreadable}

-- A value that stands for a thing with the property, or `Unreadable` where no thing has it. `OutOfMemory` comes only
-- where memory is wanted.
abbrev pub Reads : {T X : Type 0} → (T → X) → (X → Type 0) → Type 0 → Result T ReadError → Type 0
Reads view P wanted (Ok x) = P (view x)
Reads {X = X} view P wanted (Err Unreadable) = (x : X) → ¬ P x
Reads view P wanted (Err (OutOfMemory cause)) = wanted

-- the error of a text for which memory was wanting
abbrev pub IsOutOfMemory : ReadError → Type 0
IsOutOfMemory (OutOfMemory cause) = ⊤
IsOutOfMemory Unreadable = ⊥
