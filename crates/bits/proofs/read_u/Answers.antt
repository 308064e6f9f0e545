-- `read_u` meets its contract, by the test that it makes.
-- Assumes nothing.
use Rattle.bits.specs.Read.{read_at}
use Rattle.bits.proofs.Tests.{tests}
use Rattle.bits.proofs.read_u.Goals as goal

pub returns-then-have-need : goal.returns-then-have-need
unfolding read_at
returns-then-have-need c = search tests

pub returns : goal.returns
unfolding read_at
returns c = rw c.value_at.ensures (search tests)
