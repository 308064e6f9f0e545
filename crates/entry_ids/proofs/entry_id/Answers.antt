-- The width of an id by the table.
-- Assumes nothing.
use Rattle.bits.proofs.Answers.{value_fits}
use Rattle.entry_ids.proofs.entry_id.Goals as goal

pub overflow_cast-result : goal.overflow_cast-result
overflow_cast-result c = value_fits _ _ 24 c.value.ensures tt

pub overflow_cast-result-in-CellFragment : goal.overflow_cast-result-in-CellFragment
overflow_cast-result-in-CellFragment c = value_fits _ _ 32 c.value-in-CellFragment.ensures tt
