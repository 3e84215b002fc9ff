-- Why a certificate is refused, in words.
use Rattle.std.specs.Prelude.{ℕ, List, [], ◌++◌, Some, None, Option, codes, decimal, slice_index_or}
use Rattle.model.specs.declared.stamp.Stamp.{Stamp}
use Rattle.castings.specs.declared.escape.Breach.{Breach}
use Rattle.castings.specs.declared.escape.Breach.TheVariants.{Unlisted as NewUnlisted, Cell as NewCell, Row, Column}
use Rattle.castings.specs.declared.escape.Escape.{Escape}
use Rattle.checker.specs.declared.flaw.Flaw.{Flaw}
use Rattle.checker.specs.declared.flaw.Flaw.TheVariants.{NotContained, NotClosed, BanMet}
use Rattle.checker.specs.declared.flaw.Stray.{Stray}
use Rattle.checker.specs.declared.flaw.Stray.TheVariants.{Unlisted, Cell}
use Rattle.words.specs.Stamps.{stamp_words}

-- the condition that fails
abbrev pub breach_words : Breach → List ℕ
breach_words (NewUnlisted i) = codes "the new stamp of parameter " ++ (decimal i ++ codes " is not listed")
breach_words (NewCell i j r) =
    codes "right " ++ (decimal r ++ (codes " is then in the cell of parameters " ++ (decimal i ++ (codes " and " ++ (decimal j ++ codes ", and is not allowed there")))))
breach_words (Row i other r) =
    codes "parameter " ++ (decimal i ++ (codes " keeps right " ++ (decimal r ++ (codes " on " ++ (stamp_words other ++ codes ", which its new stamp is not allowed")))))
breach_words (Column i other r) =
    stamp_words other ++ (codes " keeps right " ++ (decimal r ++ (codes " on parameter " ++ (decimal i ++ codes ", which is not allowed on its new stamp"))))

-- what parameter i is cast as; of one that is not cast nothing is said
abbrev pub cast_words : (i : ℕ) → Option Stamp → List ℕ
cast_words i None = []
cast_words i (Some s) = codes ", parameter " ++ (decimal i ++ (codes " as " ++ stamp_words s))

-- what parameter i of these is cast as
abbrev pub cast_of : List (Option Stamp) → (i : ℕ) → List ℕ
cast_of stamps i = cast_words i (slice_index_or stamps i None)

-- the casting, and then the condition
abbrev pub escape_words : Escape → List ℕ
escape_words e =
    cast_of e.stamps 0 ++ (cast_of e.stamps 1 ++ (cast_of e.stamps 2 ++ (codes ": " ++ breach_words e.breach)))

-- an entry whose stamp is not listed, where it is known
abbrev pub unlisted_words : (name : ℕ) → Option Stamp → List ℕ
unlisted_words n None = codes "the stamp of entry " ++ (decimal n ++ codes " is not listed")
unlisted_words n (Some s) = codes "the stamp of entry " ++ (decimal n ++ (codes ", " ++ (stamp_words s ++ codes ", is not listed")))

-- a name at fault, and what stands there
abbrev pub stray_words : Stray → (entry : Option Stamp) → List ℕ
stray_words (Unlisted n) entry = unlisted_words n entry
stray_words (Cell n o r) entry =
    codes "right " ++ (decimal r ++ (codes " is in [" ++ (decimal n ++ (codes ", " ++ (decimal o ++ codes "], and is not allowed there")))))

-- The entry is that of a name whose stamp is not listed.
abbrev pub flaw_words : Flaw → (entry : Option Stamp) → List ℕ
flaw_words (NotContained stray) entry = stray_words stray entry
flaw_words (NotClosed command escape) entry = codes "command " ++ (decimal command ++ escape_words escape)
flaw_words (BanMet ban row column) entry =
    codes "ban " ++ (decimal ban ++ (codes ", by " ++ (stamp_words row ++ (codes " on " ++ stamp_words column))))
