-- The table of entries as what stands under each name.
use Rattle.std.specs.Prelude.{ℕ, None, Option, slice_get, unwrap_or}
use Rattle.model.specs.declared.stamp.Stamp.{Stamp}
use Rattle.protection.specs.declared.entries.Entries.{Entries}

-- there is no entry for a number over 63
abbrev pub entry_of : Entries → ℕ → Option Stamp
entry_of e n = unwrap_or (slice_get e.records n) None
