-- The header under id 4, and 0 under the other ids.
-- Assumes nothing.
use mathlib.Core.Path.{◌∙◌}
use Rattle.format.specs.Tables.{header}
use Rattle.position_v3.specs.PositionV3.{header_at, header_of}
use Rattle.entries.proofs.Ends.{ends}
use Rattle.entries.proofs.Bodies.{no_header}
use Rattle.entries.proofs.head_end.Goals as goal

pub returns-in-PositionV3 : goal.returns-in-PositionV3
unfolding header_at
returns-in-PositionV3 c =
    rw c.in-PositionV3.is (c.next_of.ensures ∙ ends c.args.s.now header 0 header_of c.read_header.ensures)

pub returns-in-PositionV2 : goal.returns-in-PositionV2
returns-in-PositionV2 c = no_header c.args.s.now c.args.table c.in-PositionV2.is
