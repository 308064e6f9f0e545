-- `entry_at` meets its contract: a stamp, six values, and the acceleration.
-- Assumes nothing.
use Rattle.bits.proofs.Answers.{value_fits}
use Rattle.ephemeris.proofs.entry_at.Goals as goal

pub overflow_cast-result : goal.overflow_cast-result
overflow_cast-result c = search value_fits

pub overflow_cast-result-2 : goal.overflow_cast-result-2
overflow_cast-result-2 c = search value_fits

pub overflow_cast-result-3 : goal.overflow_cast-result-3
overflow_cast-result-3 c = search value_fits

pub overflow_cast-result-4 : goal.overflow_cast-result-4
overflow_cast-result-4 c = search value_fits

pub overflow_cast-result-5 : goal.overflow_cast-result-5
overflow_cast-result-5 c = search value_fits

pub overflow_cast-result-6 : goal.overflow_cast-result-6
overflow_cast-result-6 c = search value_fits
