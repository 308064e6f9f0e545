-- The places of a body that is read, and the ends of its plans: each is below 65,536, and so held in 16 bits.
-- Assumes nothing.
use Prim.Native.Nat.{ℕ, ◌+◌, ◌*◌, ◌^◌, ◌≤◌, ◌<◌}
use mathlib.Core.List.{List}
use native.Mathlib.Omega.{arith}
use lib.ListN.{length}
use mir.Syntax.{w16}
use mir.Val.{Fits}
use Rattle.bits.specs.Read.{Place, Room}

-- The law: a place in a body is at most 8 × 4,096, and a plan ends at most 4,095 bytes behind one: 8 × 8,191 is 65,528.
pub held : {at : ℕ} (s : List ℕ) (more : ℕ) → length s ≤ 4096 → at ≤ 8 * length s → more ≤ 4095 → at + 8 * more < 65536
held s more short within few = omega arith

-- as a cast to 16 bits asks for it: of a place in a body, of one at which bits are there, and of a plan's end
pub within_fits : {at : ℕ} (s : List ℕ) → length s ≤ 4096 → at ≤ 8 * length s → Fits w16 at
within_fits s short within = record { fits = omega (arith, held s 0 short within (omega arith)) }

pub place_fits : {s : List ℕ} {at : ℕ} → Place s at → Fits w16 at
place_fits {s} p = within_fits s p.short p.within

pub start_fits : {s : List ℕ} {at w : ℕ} → Room s at w → Fits w16 at
start_fits {s} r = within_fits s r.short (omega arith)

pub end_fits : {s : List ℕ} {at : ℕ} (more : ℕ) → Place s at → more < 2 ^ 12 → Fits w16 (at + 8 * more)
end_fits {s} more p few = record { fits = held s more p.short p.within (omega arith) }
