-- `put_bytes` meets its contract. The loop's invariant: the first i of the K bytes are stored.
-- Assumes nothing.
use Rattle.std.proofs.Common.{◌≡◌, ◌+◌, ◌-◌, arith}
use Rattle.bits.proofs.Words.{put_none, put_more}
use Rattle.bits.proofs.put_bytes.Goals as goal

pub loop-i-init : goal.loop-i-init
loop-i-init g c = (omega arith, put_none _ _ _)

pub loop-i-preserved : goal.loop-i-preserved
loop-i-preserved g c =
    let a = c.args in
    let l = c.loop-i in
    let k = g.row.K - 1 - l.i in
    let e : g.row.K - l.i ≡ k + 1 = omega arith in
    let f : g.row.K - (l.i + 1) ≡ k = omega arith in
    (omega arith, rw (l.invariant.1, e, f) (put_more a.out.now a.at l.i k a.v (omega arith)))
