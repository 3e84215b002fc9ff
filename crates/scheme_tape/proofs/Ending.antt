-- What the end of the tape shows, where the reader's loop has come there.
use Rattle.std.proofs.Common.{ℕ, List, length, Some, None, Option, refl}
use Rattle.model.specs.declared.counts.Counts.{Counts}
use Rattle.scheme.specs.Commands.{Command}
use Rattle.tapes.specs.declared.orders.Orders.{Orders}
use Rattle.tapes.specs.Steps.{Steps}
use Rattle.tapes.proofs.Turns.{Stands, refused_end, read_whole}
use Rattle.scheme_tape.specs.Drafts.{finish_at}
use Rattle.scheme_tape.specs.Reading.{SchemeRead}
use Rattle.scheme_tape.proofs.Language.{scheme_language}
use Rattle.scheme_tape.proofs.Shaping.{whole_encodes}

module _ (c : Counts) {tape : List ℕ} {s t : Orders} (finished : List Command) where
  pub finished_as : (current : Option Command) → Stands (scheme_language c) tape s (record { finished = finished; current = current }) → Steps s None t → SchemeRead c tape (finish_at (length tape) finished current)
  finished_as None stands step = whole_encodes c tape finished (read_whole stands step refl)
  finished_as (Some m) stands step = refused_end stands step refl
