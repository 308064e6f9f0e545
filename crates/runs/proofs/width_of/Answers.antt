-- `width_of` meets its contract: each test of the mark is the definition's.
-- Assumes nothing.
use Rattle.bits.proofs.Tests.{tests}
use Rattle.runs.specs.Lines.{width_of}
use Rattle.runs.proofs.width_of.Goals as goal

pub returns-then-mark-lt128 : goal.returns-then-mark-lt128
unfolding width_of
returns-then-mark-lt128 c = search tests

pub returns : goal.returns
unfolding width_of
returns c = search tests
