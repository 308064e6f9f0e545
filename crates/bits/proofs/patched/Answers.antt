-- `patched` meets its contract, by the law of the same name.
-- Assumes nothing.
use native.Mathlib.Omega.{arith}
use Rattle.bits.proofs.Patches as patches
use Rattle.bits.proofs.patched.Goals as goal
use Rattle.bits.proofs.patched.Goals.{Start}

-- the law at the function's arguments
law : (c : Start) → patches.Patched c.args.b c.args.off c.args.n c.args.c
law c = patches.patched _ _ _ _ c.ranges.b.fits (omega arith) c.requires.1

pub overflow_cast-result : goal.overflow_cast-result
overflow_cast-result c = record { fits = (law (goal.at.overflow_cast-result c).Start).byte }

pub returns : goal.returns
returns c = (law (goal.at.returns c).Start).same
