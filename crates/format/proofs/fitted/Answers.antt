-- `fitted`: 22 where the result is longer than the buffer, or its length.
-- Assumes nothing.
use native.Mathlib.Omega.{arith}
use Rattle.format.proofs.CallLaws.{fits, over}
use Rattle.format.proofs.fitted.Goals as goal

pub returns-then-room-size : goal.returns-then-room-size
returns-then-room-size c = over (omega (arith, c.if-room-size.true))

pub returns : goal.returns
returns c = fits (omega (arith, c.if-room-size.false))
