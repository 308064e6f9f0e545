-- `metadata_at` meets its contract: two stamps and four values at their places.
-- Assumes nothing.
use Rattle.bits.proofs.Answers.{value_fits}
use Rattle.metadata.proofs.metadata_at.Goals as goal

pub overflow_cast-value : goal.overflow_cast-value
overflow_cast-value c = search value_fits

pub overflow_cast-result : goal.overflow_cast-result
overflow_cast-result c = search value_fits

pub overflow_cast-result-2 : goal.overflow_cast-result-2
overflow_cast-result-2 c = search value_fits
