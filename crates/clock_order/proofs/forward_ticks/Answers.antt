-- `forward_ticks`: the way forward, straight on or over the turn.
-- Assumes nothing.
use native.Mathlib.Omega.{arith}
use Rattle.clock_order.specs.Clock.{forward}
use Rattle.clock_order.proofs.forward_ticks.Goals as goal

pub returns-then-start-goal : goal.returns-then-start-goal
unfolding forward
returns-then-start-goal c = omega arith

pub returns-else-start-goal : goal.returns-else-start-goal
unfolding forward
returns-else-start-goal c = omega arith
