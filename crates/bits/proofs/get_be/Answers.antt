-- `get_be`: no bytes spell 0.
-- Assumes nothing.
use Rattle.std.proofs.Common.{refl}
use Rattle.format.specs.Digits.{value}
use Rattle.bits.proofs.get_be.Goals as goal

pub returns-in-0 : goal.returns-in-0
unfolding value
returns-in-0 c = rw c.in-0.is refl
