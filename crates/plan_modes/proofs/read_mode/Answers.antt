-- `read_mode` meets its contract: the mode of each number.
-- Assumes nothing.
use native.Mathlib.Omega.{arith}
use Rattle.plan_modes.proofs.Choice.{mode_0, mode_1, mode_2, mode_3}
use Rattle.plan_modes.proofs.read_mode.Goals as goal

pub returns-in-0 : goal.returns-in-0
returns-in-0 c = let a = c.args in mode_0 _ a.end a.mode a.from.at c.in-0.is (c.read_dwell.ensures a.end)

pub returns-in-1 : goal.returns-in-1
returns-in-1 c = let a = c.args in mode_1 _ a.end a.mode a.from.at c.in-1.is (c.read_bitmap.ensures a.end)

pub returns-in-2 : goal.returns-in-2
returns-in-2 c = let a = c.args in mode_2 _ a.end a.mode a.from.at c.in-2.is (c.read_grid.ensures a.end)

pub returns-in_default : goal.returns-in_default
returns-in_default c =
    let a = c.args in mode_3 _ a.end a.mode a.from.at (λ h. omega arith) (λ h. omega arith)
    (λ h. omega arith) c.read_raw.ensures
