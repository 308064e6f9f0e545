-- `acceleration_at` meets its contract: three values, if the entry has them.
-- Assumes nothing.
use Rattle.bits.proofs.Answers.{value_fits}
use Rattle.ephemeris.proofs.acceleration_at.Goals as goal

pub overflow_cast-result : goal.overflow_cast-result
overflow_cast-result c = search value_fits

pub overflow_cast-result-2 : goal.overflow_cast-result-2
overflow_cast-result-2 c = search value_fits

pub overflow_cast-result-3 : goal.overflow_cast-result-3
overflow_cast-result-3 c = search value_fits
