-- `write_u` meets its contract: as four whole bytes, within a byte, with the bytes that it touches, or byte by byte.
-- Assumes nothing.
use Prim.Native.Nat.{◌*◌, ◌/◌}
use mathlib.Core.Path.{◌≡◌}
use native.Mathlib.Omega.{arith}
use Rattle.bits.proofs.Groups.{put_bits}
use Rattle.bits.proofs.write_u.Goals as goal

pub returns-then-width-eq32 : goal.returns-then-width-eq32
returns-then-width-eq32 c =
    let a = c.args in
    let w : a.width ≡ 32 = c.if-width-eq32.true in
    let p : 8 * (a.at / 8) ≡ a.at = omega arith in
    rw (p, ← w) at (put_bits _ (a.at / 8) 4 a.v c.put_bytes.ensures)
