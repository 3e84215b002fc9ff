-- The register begins empty, and keeps what its room and its filters say.
use Rattle.std.proofs.Common.{◌∙◌}
use Rattle.scheme.specs.Views.{commands_of}
use Rattle.setups.proofs.Made.{kept_made}
use Rattle.setups.proofs.making.make_register.Goals as goal

pub returns-clause-kept : goal.returns-clause-kept
returns-clause-kept c =
    c.begin.ensures.kept ∙ kept_made (commands_of c.args.scheme.scheme) (record { store = c.args.room.choice; filters = c.args.filters }) _ _ _ c.new.ensures c.four_filters.ensures
