-- The reserved bits, by the test.
-- Assumes nothing.
use Rattle.bits.proofs.Answers.{value_fits}
use Rattle.association.proofs.reserved_of.Goals as goal

pub overflow_cast-result : goal.overflow_cast-result
overflow_cast-result c = search value_fits
