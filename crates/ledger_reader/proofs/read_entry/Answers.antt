-- `read_entry` goes through an entry by its list.
-- Assumes nothing.
use Rattle.read_plans.proofs.TakenLaws.{as_taken}
use Rattle.ledger_reader.proofs.read_entry.Goals as goal

pub returns-in-PositionV2 : goal.returns-in-PositionV2
returns-in-PositionV2 c = rw c.in-PositionV2.is (as_taken (c.read_position.ensures _))

pub returns-in-CellFragment : goal.returns-in-CellFragment
returns-in-CellFragment c = rw c.in-CellFragment.is (as_taken (c.read_fragment.ensures _))

pub returns-in-PositionV3 : goal.returns-in-PositionV3
returns-in-PositionV3 c = rw c.in-PositionV3.is (as_taken (c.read_position3.ensures _))
