-- What a stored draft stands for.
use Rattle.std.specs.Option.{option_map}
use Rattle.scheme.specs.Views.{view, commands_of}
use Rattle.scheme_tape.specs.declared.draft.Draft.{Draft as Stored}
use Rattle.scheme_tape.specs.Drafts.{Draft}

abbrev pub draft_of : Stored → Draft
draft_of d = record { finished = commands_of d.scheme; current = option_map view d.current }
