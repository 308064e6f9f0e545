-- `low_of` meets its contract: a shift there and back leaves the low bits.
-- Assumes nothing.
use Prim.Native.Nat.{◌-◌}
use native.Mathlib.Omega.{arith}
use Rattle.bits.proofs.Cuts.{lowest}
use Rattle.runs.proofs.MarkLaws.{MarkFacts, mark_facts}
use Rattle.runs.proofs.low_of.Goals as goal
use Rattle.runs.proofs.low_of.Goals.{After-width_of-rest}

-- the mark's width is 1 to 64
facts : (c : After-width_of-rest) → MarkFacts c.args.mark
facts c = mark_facts c.args.mark c.requires

pub overflow_sub-rest : goal.overflow_sub-rest
overflow_sub-rest c = omega (arith, (facts c).most, c.width_of-rest.ensures)

pub overflow_shl-result : goal.overflow_shl-result
overflow_shl-result c = omega (arith, (facts c).some, c.width_of-rest.ensures)

pub overflow_shr-result : goal.overflow_shr-result
overflow_shr-result c = omega (arith, (facts c).some, c.width_of-rest.ensures)

pub returns : goal.returns
returns c =
    let w = c.width_of-rest.result in
    rw (← c.width_of-rest.ensures) (lowest c.args.x w (64 - w) (omega (arith, (facts c).most, c.width_of-rest.ensures)))
