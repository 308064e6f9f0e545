-- `write_raw`: the bytes up to the plan's end, behind their count.
-- Assumes nothing.
use Prim.Native.Nat.{◌*◌}
use native.Mathlib.Omega.{arith}
use mathlib.Core.Path.{refl}
use lib.ListN.{length}
use Rattle.write_runs.specs.Went.{inside}
use Rattle.write_plans.proofs.SlotLaws.{counted_length, raw_fits, raw_done}
use Rattle.write_plans.proofs.write_raw.Goals as goal

pub invariant_of-result : goal.invariant_of-result
invariant_of-result c =
    let a = c.args in
    let pre = c.requires in
    let p = a.from.placed in
    let f = raw_fits a.from.at a.stop (8 * length a.from.body.now) _ p.within pre.at_value.0 pre.at_value.1 c.raw_bits-m.ensures in
    let n = counted_length a.from.body.now a.from.at _ f.fits in
    record { placed = record { short = p.short; within = f.fits; behind = omega (arith, c.write_bytes-place.ensures.size, n, f.whole, pre.spare) } }

pub returns : goal.returns
returns c =
    let a = c.args in
    let pre = c.requires in
    let raw_bits_lem = c.raw_bits-m in
    let f = raw_fits a.from.at a.stop (8 * length a.from.body.now) raw_bits_lem.result a.from.placed.within pre.at_value.0 pre.at_value.1 raw_bits_lem.ensures in
    λ ed nm. record { to = (refl, raw_done {e = inside ed a.stop} nm a.from.placed.within raw_bits_lem.ensures f c.write_bytes-place.ensures) }
