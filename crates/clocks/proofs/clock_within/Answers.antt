-- `clock_within` meets its contract: the fields, and then the test.
-- Assumes nothing.
use Rattle.clocks.proofs.Tested.{within}
use Rattle.clocks.proofs.clock_within.Goals as goal

pub returns : goal.returns
returns c = search within
