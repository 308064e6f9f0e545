-- `leaves_by` is its definition, test by test.
-- Assumes nothing.
use native.Mathlib.Omega.{arith}
use Rattle.std.proofs.lemmas.Bool.Decides.{nat_tests}
use Rattle.read_plans.specs.Taken.{leaves_by}
use Rattle.read_plans.proofs.leaves_by.Goals as goal

pub returns-then-mode-ne3 : goal.returns-then-mode-ne3
unfolding leaves_by
returns-then-mode-ne3 c = grind (arith, nat_tests)

pub returns-else-mode-ne3 : goal.returns-else-mode-ne3
unfolding leaves_by
returns-else-mode-ne3 c = grind (arith, nat_tests)

pub returns-then-mode-ne3-2 : goal.returns-then-mode-ne3-2
unfolding leaves_by
returns-then-mode-ne3-2 c = grind (arith, nat_tests)

pub returns-else-mode-ne3-2 : goal.returns-else-mode-ne3-2
unfolding leaves_by
returns-else-mode-ne3-2 c = grind (arith, nat_tests)

pub returns-else-there-length-2 : goal.returns-else-there-length-2
unfolding leaves_by
returns-else-there-length-2 c = grind (arith, nat_tests)
