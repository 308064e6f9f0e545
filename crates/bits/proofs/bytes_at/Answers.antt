-- `bytes_at` meets its contract. The invariant: the number so far is that of the last i bytes, and below 256 ^ i.
-- Assumes nothing.
use Rattle.std.proofs.Common.{◌≡◌, ◌+◌, ◌-◌, arith, refl}
use Rattle.format.specs.Digits as format
use Rattle.bits.proofs.Words.{front_lt, shifted, front_more, word_lt, spelt_all}
use Rattle.bits.proofs.bytes_at.Goals as goal

pub loop-i-init : goal.loop-i-init
unfolding format.value
loop-i-init g c = (omega arith, refl, omega arith)

pub overflow_add-value-in-loop-i : goal.overflow_add-value-in-loop-i
overflow_add-value-in-loop-i g c =
    let l = c.loop-i in
    let small = (c.type_inv.s (c.args.at + (g.row.K - 1 - l.i))).fits in
    let more = word_lt _ (l.i + 1) (front_lt l.value l.i _ l.invariant.2 small) (omega arith) in
    record { fits = rw (shifted _ l.i small (omega arith)) more }

pub loop-i-preserved : goal.loop-i-preserved
loop-i-preserved g c =
    let a = c.args in
    let l = c.loop-i in
    let p = a.at + (g.row.K - 1 - l.i) in
    let small = (c.type_inv.s p).fits in
    let e : a.at + (g.row.K - l.i) ≡ p + 1 = omega arith in
    let f : a.at + (g.row.K - (l.i + 1)) ≡ p = omega arith in (
      omega arith,
      rw (shifted _ l.i small (omega arith), l.invariant.1, e, f, front_more a.s.now p l.i (omega arith) small),
      rw (shifted _ l.i small (omega arith)) (front_lt l.value l.i _ l.invariant.2 small),
    )

pub returns : goal.returns
returns g c =
    let a = c.args in
    let l = c.loop-i in
    let all : l.i ≡ g.row.K = omega arith in
    let start : a.at + (g.row.K - g.row.K) ≡ a.at = omega arith in
    rw (l.invariant.1, all, start) (spelt_all a.s.now a.at g.row.K (λ i. (c.type_inv.s i).fits) (omega arith))
