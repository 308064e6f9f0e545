-- `clock_order`: each of the four answers, from the way forward.
-- Assumes nothing.
use mathlib.Core.Path.{◌≡◌}
use native.Mathlib.Omega.{arith}
use Rattle.clock_order.specs.Order.{clock_order}
use Rattle.clock_order.specs.declared.ClockOrder.{ClockOrder}
use Rattle.clock_order.specs.declared.ClockOrder.TheVariants.{Earlier, Same, Later, Opposite}
use Rattle.clock_order.proofs.Ways.{By, by_clock_order}
use Rattle.clock_order.proofs.clock_order.Goals as goal
use Rattle.clock_order.proofs.clock_order.Goals.{After-forward_ticks-way}

-- an answer, from the way that was found
told : (o : ClockOrder) (w : After-forward_ticks-way) → By o w.forward_ticks-way.result
    → let a = w.args in o ≡ clock_order a.base a.ext a.other_base a.other_ext
told o w h =
    let first = w.ticks_of-first.ensures in
    let second = w.ticks_of-second.ensures in
    by_clock_order o _ _ _ _ _ _ _ first second w.forward_ticks-way.ensures h

pub returns-then-way-eq0 : goal.returns-then-way-eq0
returns-then-way-eq0 c = told Same (goal.at.returns-then-way-eq0 c).After-forward_ticks-way (omega arith)

pub returns-then-earlier : goal.returns-then-earlier
returns-then-earlier c = told Earlier (goal.at.returns-then-earlier c).After-forward_ticks-way (omega arith)

pub returns-then-way-eq-HALF : goal.returns-then-way-eq-HALF
returns-then-way-eq-HALF c = told Opposite (goal.at.returns-then-way-eq-HALF c).After-forward_ticks-way (omega arith)

pub returns-else-way-eq-HALF : goal.returns-else-way-eq-HALF
returns-else-way-eq-HALF c = told Later (goal.at.returns-else-way-eq-HALF c).After-forward_ticks-way (omega arith)
