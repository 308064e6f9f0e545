-- `write_bytewise` meets its contract. The loop's invariant: the bits from `at` to the place are stored, and no others changed.
-- Assumes nothing.
use Prim.Native.Nat.{◌-◌, ◌/◌, ◌^◌, ◌≤◌}
use mathlib.Core.Path.{◌≡◌}
use lib.ListN.{length}
use Rattle.format.specs.Digits.{digits, bits_of, splice}
use Rattle.bits.proofs.write_bytewise.Given as goal

abbrev pub invariant-loop-place : goal.invariant-loop-place
invariant-loop-place l =
    (length l.out ≡ length l.initial.out) × (l.at ≤ l.place) × (l.place ≤ l.need) ×
    (bits_of l.out ≡ splice (bits_of l.initial.out) l.at (digits 2 (l.place - l.at) (l.v / 2 ^ (l.need - l.place))))

abbrev pub decreases-loop-place : goal.decreases-loop-place
decreases-loop-place l = l.need - l.place
