-- `put_bytes` meets its contract. The loop's invariant: the first i of the K bytes are stored.
-- Assumes nothing.
use Rattle.std.proofs.Common.{◌≡◌, ◌-◌, ◌/◌, ◌^◌, ◌≤◌}
use Rattle.format.specs.Digits.{digits, splice}
use Rattle.bits.proofs.put_bytes.Given as goal

abbrev pub invariant-loop-i : goal.invariant-loop-i
invariant-loop-i g l = (l.i ≤ g.row.K) × (l.out ≡ splice l.initial.out l.at (digits 256 l.i (l.v / 256 ^ (g.row.K - l.i))))
