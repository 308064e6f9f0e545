-- `write_bytewise` meets its contract. The loop's invariant: the bits from `at` to the place are stored, and no others changed.
-- Assumes nothing.
use Prim.Native.Nat.{◌+◌, ◌-◌}
use mathlib.Core.Path.{◌≡◌, refl, sym}
use native.Mathlib.Omega.{arith}
use lib.ListN.{length-set}
use Rattle.bits.proofs.Splices.{splice_nil}
use Rattle.bits.proofs.Groups.{digits_none}
use Rattle.bits.proofs.Patches.{write_turn}
use Rattle.bits.proofs.write_bytewise.Goals as goal

pub loop-place-init : goal.loop-place-init
loop-place-init c =
    let a = c.args in
    let z : a.at - a.at ≡ 0 = omega arith in
    (refl, omega arith, omega arith, rw (z, digits_none 2) (sym (splice_nil _ _)))

pub loop-place-preserved : goal.loop-place-preserved
loop-place-preserved c =
    let a = c.args in
    let l = c.loop-place in
    let n = c.step_bits-n.result in
    let e = rw c.window-c.ensures at c.patched.ensures in (
      simp length-set l.invariant.0,
      omega arith,
      omega arith,
      write_turn a.out.now l.out a.at l.place n (a.at + a.width) a.v c.patched.result
          (omega arith) (omega arith) (omega arith) (omega arith) (omega arith) l.invariant.0 l.invariant.3 e,
    )
