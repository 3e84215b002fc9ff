use Rattle.std.proofs.Common.{take, map}
use Rattle.std.specs.Fmt.{HasWritten, IsPlainFormatter}
use Rattle.scheme.specs.Views.{view}
use Rattle.words.specs.Listings.{listings_words}
use Rattle.words.proofs.listing.ListingsDisplay.fmt.Given as goal

-- the commands so far are written
abbrev pub invariant-loop-number : goal.invariant-loop-number
invariant-loop-number g l =
    IsPlainFormatter l.initial.f
    → HasWritten g.W.Write.write_str_gives l.initial.f (listings_words (map view (take l.number l.command-items))) l.f
