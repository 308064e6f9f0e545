-- `signed_of` meets its contract, by the top bit.
-- Assumes nothing.
use native.Mathlib.Omega.{arith}
use Rattle.bits.proofs.Signs.{Half, half, positive, Negative, negative}
use Rattle.bits.proofs.signed_of.Goals as goal
use Rattle.bits.proofs.signed_of.Goals.{Else-v-half, Start}

-- where the top bit stands, within 64 bits
top : (c : Start) → Half c.args.bits 63
top c = half c.args.bits 63 (omega arith) (omega arith)

-- what the last line gives
minus : (c : Else-v-half) → Negative c.args.bits c.args.v
minus c =
    let h = top c.before in
    negative c.args.bits c.args.v (omega arith) (omega arith) (omega arith) (omega arith)

pub returns-then-v-half : goal.returns-then-v-half
returns-then-v-half c =
    let h = top (goal.at.returns-then-v-half c).Start in
    positive c.args.bits c.args.v (omega arith) (omega arith) (omega arith)

pub returns-else-v-half : goal.returns-else-v-half
returns-else-v-half c = (minus (goal.at.returns-else-v-half c).Else-v-half).value
