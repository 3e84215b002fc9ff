-- What stands: entries in a table, and an access matrix in a store.
use Rattle.protection.specs.declared.entries.Entries.{Entries}
use Rattle.protection.specs.Entries.{entry_of}
use Rattle.protection.specs.States.{Protection}
use Rattle.stores.specs.Matrices.{Matrix}

abbrev pub standing : Entries → Matrix → Protection
standing entries cells = record { entry = entry_of entries; cells = cells }
