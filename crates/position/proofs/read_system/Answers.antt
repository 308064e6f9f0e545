-- `read_system` meets its contract, by the kind that position_system chooses.
-- Assumes nothing.
use Rattle.position.proofs.Systems.{is_orbital, is_elements}
use Rattle.position.proofs.read_system.Goals as goal

pub returns-in-0 : goal.returns-in-0
returns-in-0 c = search is_orbital

pub returns-in_default : goal.returns-in_default
returns-in_default c = search is_elements
