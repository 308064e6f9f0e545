-- `write_bits`: whole bytes are copied; else a byte more a turn.
-- Assumes nothing.
use Prim.Native.Nat.{◌+◌, ◌-◌, ◌/◌}
use mathlib.Core.Path.{sym}
use native.Mathlib.Omega.{arith}
use Rattle.format.specs.Body.{wholes}
use Rattle.write_plans.proofs.Packing.{begin, more, packed, packed_short, copied}
use Rattle.write_plans.proofs.write_bits.Goals as goal

pub returns-then-out-place : goal.returns-then-out-place
returns-then-out-place c =
    let a = c.args in
    sym (packed_short a.body.now a.out.now a.at a.m a.place (omega arith))

pub returns-then-m-eq0 : goal.returns-then-m-eq0
returns-then-m-eq0 c =
    let a = c.args in
    copied a.body.now a.out.now _ a.at a.m a.place (a.at / 8 + wholes a.m - a.at / 8) (λ i. omega (arith, c.type_inv.body i)) c.if-from-eq0.true c.if-m-eq0.true
    (omega arith) (omega arith) c.copy_bytes.ensures (omega arith)

pub loop-i-init : goal.loop-i-init
loop-i-init c = begin

pub loop-i-preserved : goal.loop-i-preserved
loop-i-preserved c =
    more c.loop-i.invariant c.requires.1 (omega arith) c.min-width.ensures c.value_at-v.ensures c.put.ensures

pub returns : goal.returns
returns c = packed c.loop-i.invariant (omega arith) (omega arith)
