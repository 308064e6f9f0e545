-- The table's own reading by its description, and of that the place behind it.
-- Assumes nothing.
use mathlib.Core.Path.{◌∙◌}
use Rattle.format.specs.Tables.{position}
use Rattle.position.specs.Satellite.{satellite_at, satellite_of}
use Rattle.entries.proofs.Ends.{ends}
use Rattle.entries.proofs.satellite_end.Goals as goal

pub returns : goal.returns
unfolding satellite_at
returns c = c.next_of.ensures ∙ ends c.args.from.body.now position c.args.from.at satellite_of c.read_satellite.ensures
