-- `write_entry`: the entry writer of each list.
-- Assumes nothing.
use Rattle.write_runs.specs.Went.{outside}
use Rattle.ledger_writer.proofs.write_entry.Goals as goal

pub returns-in-PositionV2 : goal.returns-in-PositionV2
returns-in-PositionV2 c = rw c.in-PositionV2.is (c.write_position.ensures (outside c.args.edition))

pub returns-in-CellFragment : goal.returns-in-CellFragment
returns-in-CellFragment c = rw c.in-CellFragment.is (c.write_fragment.ensures (outside c.args.edition))

pub returns-in-PositionV3 : goal.returns-in-PositionV3
returns-in-PositionV3 c = rw c.in-PositionV3.is (c.write_position3.ensures (outside c.args.edition))
