-- `value_bytewise` meets its contract. The loop's invariant: the number so far is that of the bits from `at` to the place.
-- Assumes nothing.
use Prim.Native.Nat.{◌-◌, ◌≤◌}
use mathlib.Core.Path.{◌≡◌}
use Rattle.format.specs.Digits.{value_at}
use Rattle.bits.proofs.value_bytewise.Given as goal

abbrev pub invariant-loop-here : goal.invariant-loop-here
invariant-loop-here l =
    (l.at ≤ l.here) × (l.here ≤ l.need) × (l.value ≡ value_at l.s l.at (l.here - l.at))

abbrev pub decreases-loop-here : goal.decreases-loop-here
decreases-loop-here l = l.need - l.here
