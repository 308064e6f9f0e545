-- `write_part` meets its contract: the byte with its bits replaced is stored.
-- Assumes nothing.
use Prim.Native.Nat.{◌+◌, ◌*◌, ◌/◌, ◌%◌, ◌^◌}
use mathlib.Core.Path.{◌≡◌}
use native.Mathlib.Nat.{div-one}
use native.Mathlib.Omega.{arith}
use Rattle.format.specs.Digits.{digits}
use Rattle.format.proofs.DigitLaws.{length_digits}
use Rattle.bits.proofs.Groups.{low_digits}
use Rattle.bits.proofs.Patches.{set_bits}
use Rattle.bits.proofs.write_part.Goals as goal

pub returns : goal.returns
returns c =
    let a = c.args in
    let w = a.width in
    let own : digits 2 w (a.v / 1 % 2 ^ w) ≡ digits 2 w a.v = rw (div-one a.v) (low_digits 2 w a.v (omega arith)) in
    let byte = rw (c.window.ensures, own) at c.patched.ensures in
    let p : 8 * (a.at / 8) + a.at % 8 ≡ a.at = omega arith in
    rw p at (set_bits a.out.now (a.at / 8) (a.at % 8) c.patched.result (digits 2 w a.v) (omega arith) (omega (arith, length_digits 2 w a.v)) byte)
