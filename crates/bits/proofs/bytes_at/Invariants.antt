-- `bytes_at` meets its contract. The invariant: the number so far is that of the last i bytes, and below 256 ^ i.
-- Assumes nothing.
use Rattle.std.proofs.Common.{◌≡◌, ◌+◌, ◌-◌, ◌^◌, ◌≤◌, ◌<◌, take, drop}
use Rattle.format.specs.Digits as format
use Rattle.bits.proofs.bytes_at.Given as goal

abbrev pub invariant-loop-i : goal.invariant-loop-i
invariant-loop-i g l =
    (l.i ≤ g.row.K) × (l.value ≡ format.value 256 (take l.i (drop (l.at + (g.row.K - l.i)) l.s))) × (l.value < 256 ^ l.i)
