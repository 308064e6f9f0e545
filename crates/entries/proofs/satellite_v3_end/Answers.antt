-- The table's own reading by its description, and of that the place behind it.
-- Assumes nothing.
use mathlib.Core.Path.{◌∙◌}
use Rattle.format.specs.Tables.{position3}
use Rattle.position_v3.specs.PositionV3.{satellite_v3_at, satellite_v3_of}
use Rattle.entries.proofs.Ends.{ends}
use Rattle.entries.proofs.satellite_v3_end.Goals as goal

pub returns : goal.returns
unfolding satellite_v3_at
returns c = c.next_of.ensures ∙ ends c.args.from.body.now position3 c.args.from.at (satellite_v3_of c.args.from.at) c.read_satellite_v3.ensures
